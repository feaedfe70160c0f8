-- Answers to the goals of `nearest` in `src/real8.rt`.
use Rattle.std.proofs.Common.{◌+◌, ◌*◌, ◌^◌, ◌-◌, sym, ◌∙◌, arith}
use Rattle.mpw_real8.proofs.Near.{found, goes_on, none_left}
use Rattle.mpw_real8.proofs.real8.nearest.Goals as goal

pub returns-then-is_near-clause-value : goal.returns-then-is_near-clause-value
returns-then-is_near-clause-value c =
    sym (found (c.args.mantissa * 16 ^ c.args.exponent) c.loop-number.number
    (1001 - c.loop-number.number) (omega arith) (sym c.is_near.ensures ∙ c.if-is_near.true))
    ∙ c.loop-number.invariant

pub loop-number-preserved : goal.loop-number-preserved
loop-number-preserved c =
    sym (goes_on (c.args.mantissa * 16 ^ c.args.exponent) c.loop-number.number
    (1001 - c.loop-number.number) (1001 - (c.loop-number.number + 1)) (omega arith)
    (sym c.is_near.ensures ∙ c.if-is_near.false)) ∙ c.loop-number.invariant

pub returns-clause-value : goal.returns-clause-value
returns-clause-value c =
    sym (none_left (c.args.mantissa * 16 ^ c.args.exponent) c.loop-number.number
    (1001 - c.loop-number.number) (omega arith)) ∙ c.loop-number.invariant
