-- Answers to the goals of `is_near` in `src/real8.rt`.
use Rattle.std.proofs.Common.{◌-◌, ◌^◌, arith}
use Rattle.std.proofs.lemmas.Nat.{mul-le}
use Rattle.mpw_real8.proofs.Scale.{near_above, near_below, near_far_below, power_le}
use Rattle.mpw_real8.proofs.real8.is_near.Goals as goal

pub returns-then-exponent-ge78 : goal.returns-then-exponent-ge78
returns-then-exponent-ge78 c = near_above c.args.mantissa c.args.number c.args.exponent
    (c.args.exponent - 78) (omega arith) c.requires.least c.requires.most

pub returns-then-below-gt21 : goal.returns-then-below-gt21
returns-then-below-gt21 c = near_far_below c.args.mantissa c.args.number c.args.exponent
    c.from-below.result (omega arith) (omega arith) c.requires.mantissa c.requires.least

pub pow-requires : goal.pow-requires
pow-requires c = let h = power_le c.from-below.result 21 (omega arith) in omega (arith, h)

pub overflow_mul-unit : goal.overflow_mul-unit
overflow_mul-unit c =
    let h = power_le c.from-below.result 21 (omega arith) in
    let p = mul-le c.from.result c.pow.result 1000 (16 ^ 21) (omega arith) (omega (arith, h)) in
    omega (arith, p)

pub overflow_mul-result : goal.overflow_mul-result
overflow_mul-result c =
    let h = power_le c.from-below.result 21 (omega arith) in
    let p = mul-le c.from.result c.pow.result 1000 (16 ^ 21) (omega arith) (omega (arith, h)) in
    omega (arith, p, c.abs_diff.ensures)

pub returns : goal.returns
returns c =
    rw (c.abs_diff.ensures, c.from-value.ensures, c.from.ensures, c.pow.ensures)
    (near_below c.args.mantissa c.args.number c.args.exponent c.from-below.result (omega arith))
