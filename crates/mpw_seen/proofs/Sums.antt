-- Numbers up to a greatest one.
use Rattle.std.proofs.Common.{◌≡◌, ℕ, zero, suc, ◌+◌, ◌*◌, ◌-◌, ◌^◌, ◌<◌, ◌≤◌, min, List, length, get_or, take, inl, inr, refl, ◌∙◌, arith}
use Rattle.std.proofs.Math.Nat.{mul-le-mul_left}
use Rattle.std.proofs.lemmas.Bool.{cases_lt}
use Rattle.std.proofs.lemmas.List.Sums.{sum_by_more}
use Rattle.std.specs.List.{sum_by}
use Rattle.mpw_seen.specs.Internal.Counts.{told}

least_sum : (most a b : ℕ) → min (min a most + min b most) most ≡ min (a + b) most
least_sum most a b = omega arith

least_past : (most k n : ℕ) → most < n → min (suc k * most) most ≡ min (suc k * n) most
least_past most k n h =
    let p : most ≤ suc k * most = omega arith in
    let q : suc k * most ≤ suc k * n = mul-le-mul_left (suc k) (omega (arith, h)) in
    omega (arith, p, q)

least_product : (most k n : ℕ) → min (k * min n most) most ≡ min (k * n) most
least_product most zero n = omega arith
least_product most (suc k) n = elim (cases_lt most n) [
  | inl h ↦ let e : min n most ≡ most = omega (arith, h) in rw e (least_past most k n h)
  | inr h ↦ let e : min n most ≡ n = omega (arith, h) in rw e refl
]

pub told_sum : (a b : ℕ) → told (told a + told b) ≡ told (a + b)
told_sum a b = least_sum (2 ^ 64 - 1) a b

pub told_product : (k n : ℕ) → told (k * told n) ≡ told (k * n)
told_product k n = least_product (2 ^ 64 - 1) k n

pub told_again : (n : ℕ) → told (told n) ≡ told n
told_again n = omega arith

-- one number more, and none yet
pub told_more : {X : Type 0} (f : X → ℕ) (first : ℕ) (xs : List X) (i : ℕ) (d : X)
    (old part new : ℕ) → i < length xs → old ≡ told (first + sum_by f (take i xs))
    → part ≡ told (f (get_or xs i d)) → new ≡ told (old + part)
    → new ≡ told (first + sum_by f (take (i + 1) xs))
told_more f first xs i d old part new h was is made =
    let x = get_or xs i d in
    let more = sum_by_more f xs i d h in
    let two = told_sum (first + sum_by f (take i xs)) (f x) in
    let same : (first + sum_by f (take i xs)) + f x ≡ first + (sum_by f (take i xs) + f x) =
    omega arith in
    made ∙ rw (was, is, two, more, same) refl

pub told_none : (first : ℕ) → first < 2 ^ 64 → first ≡ told (first + 0)
told_none first h = omega (arith, h)
