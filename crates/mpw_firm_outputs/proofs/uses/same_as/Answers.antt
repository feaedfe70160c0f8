-- Answers to the goals of `same_as` in `src/uses.rt`.
use Rattle.std.proofs.Common.{◌∙◌, sym}
use Rattle.mpw_firm_outputs.proofs.Separate.{is_found, is_passed}
use Rattle.mpw_firm_outputs.proofs.uses.same_as.Goals as goal

pub returns-then-are_one : goal.returns-then-are_one
returns-then-are_one g c =
    is_found (g.O.Outputs.files c.args.outputs.now) c.args.uses.now c.args.name.now
    c.loop-other.other-index _ _ _ c.loop-other-test.true c.loop-other.invariant.0
    c.in_ok-spot-2.ensures (sym c.are_one.ensures ∙ c.if-are_one.true) c.loop-other.invariant.1

pub loop-other-preserved : goal.loop-other-preserved
loop-other-preserved g c = (
  c.loop-other.invariant.0,
  is_passed (g.O.Outputs.files c.args.outputs.now) c.args.uses.now c.args.name.now
      c.loop-other.other-index _ _ _ c.loop-other-test.true c.loop-other.invariant.0
      c.in_ok-spot-2.ensures (sym c.are_one.ensures ∙ c.if-are_one.false) c.loop-other.invariant.1,
)
