-- A power of 16 that both sides of a comparison have can be dropped.
use Rattle.std.proofs.Common.{◌≡◌, ℕ, ◌+◌, ◌-◌, ◌*◌, ◌^◌, ◌<◌, ◌≤◌, false, eqb, leb, refl, sym, ap, ◌∙◌, arith, inl, inr}
use Rattle.std.specs.Int.{abs_diff}
use Rattle.std.proofs.Math.Nat.{pow-le-pow_right, one-le-pow, le_of_mul-le-mul_right, mul-sub, mul_comm}
use Rattle.std.proofs.lemmas.Nat.{pow-add, mul-le}
use Rattle.std.proofs.lemmas.Bool.Decides.{same_from_decides, Decides-eqb, Decides-like, leb_tells}

-- 2^312, which is 16^78
abbrev pub whole : ℕ
whole = 2 ^ 312

cancel_le : (a b c : ℕ) → 0 < c → a * c ≤ b * c → a ≤ b
cancel_le a b c pos h = le_of_mul-le-mul_right h pos

grow_le : (a b c : ℕ) → a ≤ b → a * c ≤ b * c
grow_le a b c h = mul-le a c b c h (omega arith)

cancel : (a b c : ℕ) → 0 < c → a * c ≡ b * c → a ≡ b
cancel a b c pos e =
    omega (arith, cancel_le a b c pos (omega (arith, e)), cancel_le b a c pos (omega (arith, e)))

eqb_same : (a b c d : ℕ) → (a ≡ b → c ≡ d) → (c ≡ d → a ≡ b) → eqb a b ≡ eqb c d
eqb_same a b c d there back = same_from_decides (eqb a b) (eqb c d) (Decides-eqb a b)
    (Decides-like (eqb c d) back there (Decides-eqb c d))

leb_same : (a b c d : ℕ) → (a ≤ b → c ≤ d) → (c ≤ d → a ≤ b) → leb a b ≡ leb c d
leb_same a b c d there back =
    elim (leb_tells a b) [
      | inl p ↦ elim (leb_tells c d) [
        | inl q ↦ p.0 ∙ sym q.0
        | inr q ↦ let h = there p.1 in
            absurd (omega (arith, h, q.1))
      ]
      | inr p ↦ elim (leb_tells c d) [
        | inl q ↦ let h = back q.1 in absurd (omega (arith, h, p.1))
        | inr q ↦ p.0 ∙ sym q.0
      ]
    ]

-- numbers with a common factor are equal exactly if they are equal without it
pub eqb_factor : (a b c : ℕ) → 0 < c → eqb (a * c) (b * c) ≡ eqb a b
eqb_factor a b c pos = eqb_same (a * c) (b * c) a b (cancel a b c pos) (λ e. ap (λ x. x * c) e)

leb_factor : (a b c : ℕ) → 0 < c → leb (a * c) (b * c) ≡ leb a b
leb_factor a b c pos = leb_same (a * c) (b * c) a b (cancel_le a b c pos) (grow_le a b c)

diff_factor : (a b c : ℕ) → abs_diff (a * c) (b * c) ≡ abs_diff a b * c
diff_factor a b c =
    let p : (a - b) * c ≡ a * c - b * c = mul_comm (a - b) c ∙ mul-sub c a b
    ∙ rw (mul_comm c a, mul_comm c b) refl in
    let q : (b - a) * c ≡ b * c - a * c = mul_comm (b - a) c ∙ mul-sub c b a
    ∙ rw (mul_comm c a, mul_comm c b) refl in
    omega (arith, p, q)

pub power_pos : (k : ℕ) → 0 < 16 ^ k
power_pos k = one-le-pow k 16 (omega arith)

pub power_le : (i j : ℕ) → i ≤ j → 16 ^ i ≤ 16 ^ j
power_le i j h = pow-le-pow_right (omega arith) h

-- ---- equality, by comparing the exponent with 78

pub multiple_above : (m n e k : ℕ) → e ≡ 78 + k → eqb (m * 16 ^ k) n ≡ eqb (m * 16 ^ e) (n * whole)
multiple_above m n e k at =
    let power : 16 ^ e ≡ whole * 16 ^ k = ap (λ x. 16 ^ x) at ∙ pow-add 16 78 k in
    let left : m * 16 ^ e ≡ (m * 16 ^ k) * whole = rw power (omega arith) in
    sym (rw left (eqb_factor (m * 16 ^ k) n whole (omega arith)))

pub multiple_below : (m n e k : ℕ) → e + k ≡ 78 → eqb m (n * 16 ^ k) ≡ eqb (m * 16 ^ e) (n * whole)
multiple_below m n e k at =
    let power : whole ≡ 16 ^ e * 16 ^ k = sym (ap (λ x. 16 ^ x) at) ∙ pow-add 16 e k in
    let right : n * whole ≡ (n * 16 ^ k) * 16 ^ e = ap (λ x. n * x) power ∙ omega arith in
    sym (rw right (eqb_factor m (n * 16 ^ k) (16 ^ e) (power_pos e)))

pub far_above : (m n k : ℕ) → 8 < k → n < 2 ^ 32 → eqb (m + n) 0 ≡ eqb (m * 16 ^ k) n
far_above m n k far small =
    let big = power_le 9 k far in
    let grown = mul-le m (16 ^ 9) m (16 ^ k) (omega arith) big in
    eqb_same (m + n) 0 (m * 16 ^ k) n (λ h. ap (λ x. x * 16 ^ k) (let z : m ≡ 0 = omega arith in z)
    ∙ omega arith) (λ h.
    let z : m ≡ 0 = omega (arith, h, grown) in
    let w : m * 16 ^ k ≡ 0 * 16 ^ k = ap (λ x. x * 16 ^ k) z in
    omega (arith, h, w))

pub far_below : (m n k : ℕ) → 14 < k → m < 2 ^ 56 → eqb (m + n) 0 ≡ eqb m (n * 16 ^ k)
far_below m n k far small =
    let big = power_le 15 k far in
    let grown = mul-le n (16 ^ 15) n (16 ^ k) (omega arith) big in
    eqb_same (m + n) 0 m (n * 16 ^ k) (λ h. (let z : m ≡ 0 = omega arith in z)
    ∙ sym (ap (λ x. x * 16 ^ k) (let z : n ≡ 0 = omega arith in z) ∙ omega arith)) (λ h.
    let z : n ≡ 0 = omega (arith, h, grown) in
    let w : n * 16 ^ k ≡ 0 * 16 ^ k = ap (λ x. x * 16 ^ k) z in
    omega (arith, h, w))

-- ---- nearness

pub near_below : (m n e k : ℕ) → e + k ≡ 78
    → leb (abs_diff (m * 10 ^ 9) (n * 16 ^ k) * 10 ^ 9) (n * 16 ^ k)
    ≡ leb (abs_diff (m * 16 ^ e * 10 ^ 9) (n * whole) * 10 ^ 9) (n * whole)
near_below m n e k at =
    let power : whole ≡ 16 ^ e * 16 ^ k = sym (ap (λ x. 16 ^ x) at) ∙ pow-add 16 e k in
    let right : n * whole ≡ (n * 16 ^ k) * 16 ^ e = ap (λ x. n * x) power ∙ omega arith in
    let left : m * 16 ^ e * 10 ^ 9 ≡ (m * 10 ^ 9) * 16 ^ e = omega arith in
    let d = diff_factor (m * 10 ^ 9) (n * 16 ^ k) (16 ^ e) in
    let turn : abs_diff (m * 10 ^ 9) (n * 16 ^ k) * 16 ^ e * 10 ^ 9
    ≡ (abs_diff (m * 10 ^ 9) (n * 16 ^ k) * 10 ^ 9) * 16 ^ e =
    swap3 (abs_diff (m * 10 ^ 9) (n * 16 ^ k)) (16 ^ e) (10 ^ 9) in
    sym (rw (right, left, d, turn) (leb_factor (abs_diff (m * 10 ^ 9) (n * 16 ^ k) * 10 ^ 9)
    (n * 16 ^ k) (16 ^ e) (power_pos e)))
  where
    swap3 : (a b c : ℕ) → a * b * c ≡ a * c * b
    swap3 a b c = omega arith

is_false : (a b : ℕ) → b < a → false ≡ leb a b
is_false a b h = elim (leb_tells a b) [ inl p ↦ absurd (omega (arith, p.1)) | inr p ↦ sym p.0 ]

pub near_above : (m n e k : ℕ) → e ≡ 78 + k → 1 ≤ n → n ≤ 1000
    → false ≡ leb (abs_diff (m * 16 ^ e * 10 ^ 9) (n * whole) * 10 ^ 9) (n * whole)
near_above m n e k at least most =
    let power : 16 ^ e ≡ whole * 16 ^ k = ap (λ x. 16 ^ x) at ∙ pow-add 16 78 k in
    let x = m * 16 ^ k in
    let left : m * 16 ^ e * 10 ^ 9 ≡ (x * 10 ^ 9) * whole = rw power (omega arith) in
    let d = diff_factor (x * 10 ^ 9) n whole in
    let turn : abs_diff (x * 10 ^ 9) n * whole * 10 ^ 9 ≡ (abs_diff (x * 10 ^ 9) n * 10 ^ 9) *
    whole = omega arith in
    rw (left, d, turn) (is_false (abs_diff (x * 10 ^ 9) n * 10 ^ 9) n (away x n least most)
    ∙ sym (leb_factor (abs_diff (x * 10 ^ 9) n * 10 ^ 9) n whole (omega arith)))
  where
    away : (x n : ℕ) → 1 ≤ n → n ≤ 1000 → n < abs_diff (x * 10 ^ 9) n * 10 ^ 9
    away x n least most = omega arith

pub near_far_below : (m n e k : ℕ) → e + k ≡ 78 → 21 < k → m < 2 ^ 56 → 1 ≤ n
    → false ≡ leb (abs_diff (m * 16 ^ e * 10 ^ 9) (n * whole) * 10 ^ 9) (n * whole)
near_far_below m n e k at far small least =
    let big = power_le 22 k far in
    let grown = mul-le 1 (16 ^ 22) n (16 ^ k) least big in
    is_false (abs_diff (m * 10 ^ 9) (n * 16 ^ k) * 10 ^ 9) (n * 16 ^ k)
    (away m (n * 16 ^ k) small (omega (arith, grown))) ∙ near_below m n e k at
  where
    away : (m u : ℕ) → m < 2 ^ 56 → 16 ^ 22 ≤ u → u < abs_diff (m * 10 ^ 9) u * 10 ^ 9
    away m u small big = omega arith
