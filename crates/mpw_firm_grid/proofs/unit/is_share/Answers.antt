-- Answers to the goals of `is_share` in `src/unit.rt`.
use Rattle.std.proofs.Common.{◌-◌, ◌^◌, arith}
use Rattle.std.proofs.lemmas.Nat.{mul-le}
use Rattle.mpw_firm_grid.proofs.Shares.{share_above, share_below, share_far}
use Rattle.mpw_real8.proofs.Scale.{power_le}
use Rattle.mpw_firm_grid.proofs.unit.is_share.Goals as goal

pub returns-then-exponent-ge78 : goal.returns-then-exponent-ge78
returns-then-exponent-ge78 c =
    share_above c.args.mantissa c.args.parts c.args.exponent (c.args.exponent - 78) (omega arith)

pub returns-then-below-gt24 : goal.returns-then-below-gt24
returns-then-below-gt24 c =
    share_far c.args.mantissa c.args.parts c.args.exponent c.from-below.result (omega arith)
    (omega arith) c.requires.mantissa c.requires.most

pub pow-unit-requires : goal.pow-unit-requires
pow-unit-requires c = let h = power_le c.from-below.result 24 (omega arith) in omega (arith, h)

pub overflow_mul-result : goal.overflow_mul-result
overflow_mul-result c =
    let h = power_le c.from-below.result 24 (omega arith) in
    let p = mul-le c.from.result c.from-2.result (2 ^ 56) 1000 (omega (arith, c.from.ensures, c.requires.mantissa))
    (omega (arith, c.from-2.ensures, c.requires.most)) in
    omega (arith, h, p, c.abs_diff.ensures, c.from.ensures, c.from-2.ensures, c.pow-unit.ensures)

pub returns : goal.returns
returns c =
    rw (c.abs_diff.ensures, c.from.ensures, c.from-2.ensures, c.pow-unit.ensures)
    (share_below c.args.mantissa c.args.parts c.args.exponent c.from-below.result (omega arith))
