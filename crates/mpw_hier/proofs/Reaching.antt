-- The numbers of an array's extent, as the code computes them.
use Rattle.std.proofs.Common.{◌≡◌, ℕ, ◌*◌, ◌^◌, ◌≤◌, ℤ, pos, ◌+ℤ◌, ◌*ℤ◌, w64, SFits, to_z, of_z, ◌∙◌, arith}
use Rattle.std.specs.Int.{w128}
use Rattle.std.specs.Int.RustNames.{unsigned_abs}
use Rattle.std.proofs.Math.Nat.{mul-le-mul}
use Rattle.std.proofs.lemmas.Int.{ints, to_z-of_z, unsigned_abs-mul, fits_signed_from_abs}
use Rattle.mpw_structures.specs.Element.{IsWithinReach}
use Rattle.mpw_hier.specs.Internal.SizeParts.{IsWide}

abs_reach : (z : ℤ) → IsWithinReach z → unsigned_abs z ≤ 2 ^ 48
abs_reach z h = omega (arith, ints)

wide_from_abs : (z : ℤ) → unsigned_abs z ≤ 2 ^ 63 → IsWide z
wide_from_abs z h = record { above = omega (arith, ints); below = omega (arith, ints) }

product_abs : (n : ℕ) (s : ℤ) → n ≤ 32767 → IsWithinReach s → unsigned_abs (pos n *ℤ s) ≤ 2 ^ 63
product_abs n s h k = rw unsigned_abs-mul
    (let m : n * unsigned_abs s ≤ 32767 * 2 ^ 48 = mul-le-mul h (abs_reach s k) in omega (arith, m))

pub product_wide : (n : ℕ) (s : ℤ) → n ≤ 32767 → IsWithinReach s → IsWide (pos n *ℤ s)
product_wide n s h k = wide_from_abs (pos n *ℤ s) (product_abs n s h k)

pub product_is : (n : ℕ) (s steps wide : ℤ) → n ≤ 32767 → IsWithinReach s → steps ≡ pos n
    → wide ≡ to_z w64 (of_z w64 s) → to_z w128
    (of_z w128 (to_z w128 (of_z w128 steps) *ℤ to_z w128 (of_z w128 wide))) ≡ pos n *ℤ s
product_is n s steps wide h k e f =
    let reach : SFits w64 s = fits_signed_from_abs w64 s (omega (arith, abs_reach s k)) in
    let same : wide ≡ s = f ∙ to_z-of_z w64 s reach in
    let left : to_z w128 (of_z w128 steps) ≡ pos n =
    rw e (to_z-of_z w128 (pos n) (fits_signed_from_abs w128 (pos n) (omega (arith, h)))) in
    let right : to_z w128 (of_z w128 wide) ≡ s =
    rw same (to_z-of_z w128 s (fits_signed_from_abs w128 s (omega (arith, abs_reach s k)))) in
    rw (left, right) (to_z-of_z w128 (pos n *ℤ s)
    (fits_signed_from_abs w128 (pos n *ℤ s) (omega (arith, product_abs n s h k))))

-- ---- sums

pub fits_sum : (wide c r : ℤ) → SFits w64 wide → IsWide c → IsWide r → SFits w128 ((wide +ℤ c) +ℤ r)
fits_sum wide c r f h k =
    let g = f.sfits in fits_signed_from_abs w128 ((wide +ℤ c) +ℤ r) (omega (arith, ints, g))

as_first : (first wide : ℤ) → SFits w64 first → wide ≡ to_z w64 (of_z w64 first) → wide ≡ first
as_first first wide f e = e ∙ to_z-of_z w64 first f

narrow_as_wide : (z : ℤ) → SFits w64 z → SFits w128 z
narrow_as_wide z f = let g = f.sfits in fits_signed_from_abs w128 z (omega (arith, ints, g))

wide_fits : (z : ℤ) → IsWide z → SFits w128 z
wide_fits z h = fits_signed_from_abs w128 z (omega (arith, ints))

-- a coordinate in 128 bits
pub as_wide : (first wide : ℤ) → SFits w64 first → wide ≡ to_z w64 (of_z w64 first)
    → to_z w128 (of_z w128 wide) ≡ first
as_wide first wide f e =
    rw (as_first first wide f e) (to_z-of_z w128 first (narrow_as_wide first f))

first_sum : (first wide c : ℤ) → SFits w64 first → wide ≡ first → IsWide c
    → to_z w128 (of_z w128 (to_z w128 (of_z w128 wide) +ℤ to_z w128 (of_z w128 c))) ≡ first +ℤ c
first_sum first wide c f e h =
    let g = f.sfits in
    let left : to_z w128 (of_z w128 wide) ≡ first =
    rw e (to_z-of_z w128 first (narrow_as_wide first f)) in
    let right = to_z-of_z w128 c (wide_fits c h) in
    rw (left, right) (to_z-of_z w128 (first +ℤ c)
    (fits_signed_from_abs w128 (first +ℤ c) (omega (arith, ints, g))))

pub sum_is : (first wide c r : ℤ) → SFits w64 first → wide ≡ to_z w64 (of_z w64 first) → IsWide c
    → IsWide r
    → to_z w128
    (of_z w128 (to_z w128 (of_z w128 (to_z w128 (of_z w128 wide) +ℤ to_z w128 (of_z w128 c))) +ℤ
    to_z w128 (of_z w128 r))) ≡ (first +ℤ c) +ℤ r
sum_is first wide c r f e h k =
    let left = first_sum first wide c f (as_first first wide f e) h in
    let right = to_z-of_z w128 r (wide_fits r k) in
    rw (left, right) (to_z-of_z w128 ((first +ℤ c) +ℤ r) (fits_sum first c r f h k))
