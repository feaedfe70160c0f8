-- Parts of a nanometre, one number of parts after another.
use Rattle.std.proofs.Common.{◌≡◌, ◌∙◌, ℕ, zero, suc, ◌+◌, ◌*◌, ◌^◌, ◌<◌, ◌≤◌, Bool, true, false, leb, Some, None, refl, sym, ap, arith, inl, inr}
use Rattle.std.specs.Int.{abs_diff}
use Rattle.std.proofs.lemmas.Nat.{mul-le}
use Rattle.std.proofs.lemmas.Bool.Decides.{leb_tells}
use Rattle.mpw_firm_grid.specs.Units.{first_share, is_share}
use Rattle.mpw_real8.proofs.Scale.{near_above, near_below, power_le, whole}

swap3 : (a b c : ℕ) → a * b * c ≡ a * c * b
swap3 a b c = omega arith

abbrev near : (m e : ℕ) → Bool
near m e = leb (abs_diff (m * 16 ^ e * 10 ^ 9) (1 * whole) * 10 ^ 9) (1 * whole)

-- The parts belong to the mantissa as well.
by_mantissa : (m p e : ℕ) → near (m * p) e ≡ is_share (m * 16 ^ e) p
by_mantissa m p e =
    ap (λ v. leb (abs_diff (v * 10 ^ 9) (1 * whole) * 10 ^ 9) (1 * whole)) (swap3 m p (16 ^ e))

pub share_above : (m p e k : ℕ) → e ≡ 78 + k → false ≡ is_share (m * 16 ^ e) p
share_above m p e k at =
    near_above (m * p) 1 e k at (omega arith) (omega arith) ∙ by_mantissa m p e

once : (u : ℕ) → u ≡ 1 * u
once u = omega arith

pub share_below : (m p e k : ℕ) → e + k ≡ 78
    → leb (abs_diff (m * p * 10 ^ 9) (16 ^ k) * 10 ^ 9) (16 ^ k) ≡ is_share (m * 16 ^ e) p
share_below m p e k at =
    ap (λ u. leb (abs_diff (m * p * 10 ^ 9) u * 10 ^ 9) u) (once (16 ^ k))
    ∙ near_below (m * p) 1 e k at ∙ by_mantissa m p e

is_false : (a b : ℕ) → b < a → false ≡ leb a b
is_false a b h = elim (leb_tells a b) [ inl p ↦ absurd (omega (arith, p.1)) | inr p ↦ sym p.0 ]

pub share_far : (m p e k : ℕ) → e + k ≡ 78 → 24 < k → m < 2 ^ 56 → p ≤ 1000
    → false ≡ is_share (m * 16 ^ e) p
share_far m p e k at far small most =
    let big = power_le 25 k far in
    let product = mul-le m p (2 ^ 56) 1000 (omega (arith, small)) most in
    is_false (abs_diff (m * p * 10 ^ 9) (16 ^ k) * 10 ^ 9) (16 ^ k)
    (away (m * p) (16 ^ k) product big)
    ∙ share_below m p e k at
  where
    away : (m u : ℕ) → m ≤ 2 ^ 56 * 1000 → 16 ^ 25 ≤ u → u < abs_diff (m * 10 ^ 9) u * 10 ^ 9
    away m u small big = omega arith

-- ---- the search

pub found : (value from count : ℕ) → 0 < count → is_share value from ≡ true
    → first_share value from count ≡ Some from
unfolding first_share
found value from zero h e = absurd (omega arith)
found value from (suc count) h e = rw e refl

pub goes_on : (value from count rest : ℕ) → count ≡ rest + 1 → is_share value from ≡ false
    → first_share value from count ≡ first_share value (from + 1) rest
unfolding first_share
goes_on value from zero rest h e = absurd (omega arith)
goes_on value from (suc count) rest h e = let same : count ≡ rest = omega arith in rw (e, same) refl

pub none_left : (value from count : ℕ) → count ≡ 0 → first_share value from count ≡ None
unfolding first_share
none_left value from count h = rw h refl
