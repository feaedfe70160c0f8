-- Answers to the goals of `is_multiple` in `src/real8.rt`.
use Rattle.std.proofs.Common.{◌^◌, ◌∙◌, arith}
use Rattle.std.proofs.lemmas.Nat.{mul-le}
use Rattle.mpw_real8.proofs.Scale.{multiple_above, multiple_below, far_above, far_below, power_le}
use Rattle.mpw_real8.proofs.real8.is_multiple.Goals as goal

pub returns-then-above-gt8 : goal.returns-then-above-gt8
returns-then-above-gt8 c =
    let k = c.from-above.result in
    rw (c.from-mantissa.ensures, c.from-number.ensures)
    (far_above c.args.mantissa c.args.number k (omega arith) (omega arith)
    ∙ multiple_above c.args.mantissa c.args.number c.args.exponent k (omega arith))

pub pow-requires : goal.pow-requires
pow-requires c = let h = power_le c.from-above.result 8 (omega arith) in omega (arith, h)

pub overflow_mul-result : goal.overflow_mul-result
overflow_mul-result c =
    let h = power_le c.from-above.result 8 (omega arith) in
    let p = mul-le c.from-mantissa.result c.pow.result (2 ^ 56) (16 ^ 8) (omega arith)
    (omega (arith, h)) in
    omega (arith, p)

pub returns-then-exponent-ge78 : goal.returns-then-exponent-ge78
returns-then-exponent-ge78 c =
    rw (c.from-mantissa.ensures, c.from-number.ensures, c.pow.ensures)
    (multiple_above c.args.mantissa c.args.number c.args.exponent c.from-above.result
    (omega arith))

pub returns-then-below-gt14 : goal.returns-then-below-gt14
returns-then-below-gt14 c =
    let k = c.from-below.result in
    rw (c.from-mantissa.ensures, c.from-number.ensures)
    (far_below c.args.mantissa c.args.number k (omega arith) (omega arith)
    ∙ multiple_below c.args.mantissa c.args.number c.args.exponent k (omega arith))

pub pow-requires-2 : goal.pow-requires-2
pow-requires-2 c = let h = power_le c.from-below.result 14 (omega arith) in omega (arith, h)

pub overflow_mul-result-2 : goal.overflow_mul-result-2
overflow_mul-result-2 c =
    let h = power_le c.from-below.result 14 (omega arith) in
    let p = mul-le c.from-number.result c.pow-2.result (2 ^ 32) (16 ^ 14) (omega arith)
    (omega (arith, h)) in
    omega (arith, p)

pub returns : goal.returns
returns c =
    rw (c.from-mantissa.ensures, c.from-number.ensures, c.pow-2.ensures)
    (multiple_below c.args.mantissa c.args.number c.args.exponent c.from-below.result
    (omega arith))
