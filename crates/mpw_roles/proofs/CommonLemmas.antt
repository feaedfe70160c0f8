-- How many indexes two sets have in common.
use Rattle.std.proofs.Common.{◌≡◌, ℕ, zero, suc, ◌+◌, ◌*◌, ◌/◌, ◌%◌, ◌^◌, ◌<◌, ◌≤◌, Bool, true, cond, ◌&&◌, get_or, eqb, min, refl, sym, ap, ◌∙◌, eq-eqb, inl, inr, arith}
use Rattle.std.proofs.Math.Nat.{two-pow-succ, suc-add, zero-add}
use Rattle.std.specs.Prelude.{nat_lt, bit_and, count_by, count_ones}
use Rattle.std.specs.Int.{bit_at}
use Rattle.std.specs.List.{range_with_len}
use Rattle.std.proofs.lemmas.Bool.{lt-ltb, cases_eq, ne_eqb, and_right}
use Rattle.std.proofs.lemmas.List.Sums.{sum_by-cons, count_by-le-length}
use Rattle.std.proofs.lemmas.List.FromFn.{length-range_with_len}
use Rattle.std.proofs.lemmas.Nat.Bits.{bit_at-lt, bit_at_lowest, bit_at-suc, bit_at_and}
use lib.Count.{ones_step, ones-le}
use Rattle.mpw_roles.specs.declared.mask.Mask.{Mask}
use Rattle.mpw_roles.specs.Mask.{has, common}

digit : (d : ℕ) → d < 2 → cond (eqb d 1) 1 0 ≡ d
digit zero small = refl
digit (suc zero) small = refl
digit (suc (suc d)) small = absurd (omega arith)

-- one more index at the front
pub count-first : (p : ℕ → Bool) (k n : ℕ) → count_by p (range_with_len k (suc n))
    ≡ cond (p k) 1 0 + count_by p (range_with_len (k + 1) n)
count-first p k n = sum_by-cons (λ i. cond (p i) 1 0) k (range_with_len (k + 1) n)

-- the ones of a word are the indexes of its bits
ones-places : (n k w : ℕ) (p : ℕ → Bool) → w < 2 ^ n
    → ((i : ℕ) → i < n → p (k + i) ≡ eqb (bit_at w i) 1)
    → count_by p (range_with_len k n) ≡ count_ones w
ones-places zero k w p small at = omega (arith, ones-le 0 w small)
ones-places (suc n) k w p small at =
    let half : w / 2 < 2 ^ n = omega (arith, two-pow-succ n) in
    let here : k ≡ k + 0 = omega arith in
    let first : cond (p k) 1 0 ≡ w % 2 =
    ap (λ i. cond (p i) 1 0) here ∙ ap (λ b. cond b 1 0) (at 0 (omega arith))
    ∙ digit (bit_at w 0) (bit_at-lt w 0) ∙ bit_at_lowest w in
    let rest = ones-places n (k + 1) (w / 2) p half
    (λ i inside. let next : k + 1 + i ≡ k + suc i = omega arith in
    ap p next ∙ at (suc i) (omega arith) ∙ ap (λ b. eqb b 1) (bit_at-suc w i)) in
    count-first p k n ∙ (λ i. first i + rest i) ∙ sym (ones_step w)

-- indexes up to one, and from there on
pub count-split : (p : ℕ → Bool) (m a n : ℕ) → count_by p (range_with_len a (m + n))
    ≡ count_by p (range_with_len a m) + count_by p (range_with_len (a + m) n)
count-split p zero a n =
    let none : zero + n ≡ n = omega arith in
    let here : a ≡ a + 0 = omega arith in
    ap (λ k. count_by p (range_with_len a k)) none
    ∙ ap (λ k. count_by p (range_with_len k n)) here
    ∙ sym (zero-add (count_by p (range_with_len (a + 0) n)))
count-split p (suc m) a n =
    let rest = count-split p m (a + 1) n in
    let next : a + 1 + m ≡ a + suc m = omega arith in
    let moved = ap (λ k. count_by p (range_with_len k n)) next in
    let front = count-first p a m in
    ap (λ k. count_by p (range_with_len a k)) (suc-add m n) ∙ count-first p a (m + n)
    ∙ omega (arith, rest, moved, front)

both_bits : (a b : ℕ) → a < 2 → b < 2 → (eqb a 1 && eqb b 1) ≡ eqb (min a b) 1
both_bits a b p q = elim (cases_eq a 1) [
  | inl one ↦ elim (cases_eq b 1) [
    | inl also ↦ (λ t. eq-eqb a 1 one t && eq-eqb b 1 also t)
        ∙ sym (eq-eqb (min a b) 1 (omega arith))
    | inr other ↦ and_right (eqb a 1) (eqb b 1) (ne_eqb b 1 other)
        ∙ sym (ne_eqb (min a b) 1 (λ is. absurd (omega arith)))
  ]
  | inr none ↦ ap (λ t. t && eqb b 1) (ne_eqb a 1 none)
      ∙ sym (ne_eqb (min a b) 1 (λ is. absurd (omega arith)))
]

-- the indexes of one word
in-word : (a b : Mask) (k i : ℕ) → k < 8 → i < 64 → (has a (k * 64 + i) && has b (k * 64 + i))
    ≡ eqb (bit_at (bit_and (get_or a.words k 0) (get_or b.words k 0)) i) 1
unfolding has
in-word a b k i small low =
    let word : (k * 64 + i) / 64 ≡ k = omega arith in
    let rest : (k * 64 + i) % 64 ≡ i = omega arith in
    let fits : nat_lt (k * 64 + i) 512 ≡ true = lt-ltb _ _ (omega arith) in
    (λ t. (fits t && eqb (bit_at (get_or a.words (word t) 0) (rest t)) 1)
    && (fits t && eqb (bit_at (get_or b.words (word t) 0) (rest t)) 1))
    ∙ both_bits (bit_at (get_or a.words k 0) i) (bit_at (get_or b.words k 0) i)
    (bit_at-lt (get_or a.words k 0) i) (bit_at-lt (get_or b.words k 0) i)
    ∙ ap (λ n. eqb n 1) (sym (bit_at_and (get_or a.words k 0) (get_or b.words k 0) i))

-- the indexes that both have, of the first words
abbrev pub common_upto : Mask → Mask → ℕ → ℕ
common_upto a b n = count_by (λ place. has a place && has b place) (range_with_len 0 n)

pub common-word : (a b : Mask) (k : ℕ) → k < 8
    → bit_and (get_or a.words k 0) (get_or b.words k 0) < 2 ^ 64
    → common_upto a b (k * 64 + 64) ≡ common_upto a b (k * 64)
    + count_ones (bit_and (get_or a.words k 0) (get_or b.words k 0))
common-word a b k small fits =
    let p : ℕ → Bool = λ place. has a place && has b place in
    let start : 0 + k * 64 ≡ k * 64 = omega arith in
    count-split p (k * 64) 0 64
    ∙ ap (λ n. common_upto a b (k * 64) + n) (ap (λ s. count_by p (range_with_len s 64)) start
    ∙ ones-places 64 (k * 64) (bit_and (get_or a.words k 0) (get_or b.words k 0)) p fits
    (λ i low. in-word a b k i small low))

pub common-le : (a b : Mask) (n : ℕ) → common_upto a b n ≤ n
common-le a b n =
    let most = count_by-le-length (λ place. has a place && has b place) (range_with_len 0 n) in
    let long = length-range_with_len 0 n in
    omega arith

pub common-all : (a b : Mask) → common_upto a b 512 ≡ common a b
unfolding common
common-all a b = refl
