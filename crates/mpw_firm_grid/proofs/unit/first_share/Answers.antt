-- Answers to the goals of `first_share` in `src/unit.rt`.
use Rattle.std.proofs.Common.{◌+◌, ◌*◌, ◌^◌, ◌-◌, sym, ◌∙◌, arith}
use Rattle.mpw_firm_grid.proofs.Shares.{found, goes_on, none_left}
use Rattle.mpw_firm_grid.proofs.unit.first_share.Goals as goal

pub returns-then-is_share-clause-value : goal.returns-then-is_share-clause-value
returns-then-is_share-clause-value c =
    sym (found (c.args.mantissa * 16 ^ c.args.exponent) c.loop-parts.parts
    (1001 - c.loop-parts.parts) (omega arith) (sym c.is_share.ensures ∙ c.if-is_share.true))
    ∙ c.loop-parts.invariant

pub loop-parts-preserved : goal.loop-parts-preserved
loop-parts-preserved c =
    sym (goes_on (c.args.mantissa * 16 ^ c.args.exponent) c.loop-parts.parts
    (1001 - c.loop-parts.parts) (1001 - (c.loop-parts.parts + 1)) (omega arith)
    (sym c.is_share.ensures ∙ c.if-is_share.false)) ∙ c.loop-parts.invariant

pub returns-clause-value : goal.returns-clause-value
returns-clause-value c =
    sym (none_left (c.args.mantissa * 16 ^ c.args.exponent) c.loop-parts.parts
    (1001 - c.loop-parts.parts) (omega arith)) ∙ c.loop-parts.invariant
