-- Answers to the goals of `turn_state` in `src/turn.rt`.
use Rattle.std.proofs.Common.{arith, rules, FitsSigned}
use Rattle.std.specs.Int.{w64}
use Rattle.std.proofs.lemmas.Int.{ints}
use Rattle.mpw_shapes.proofs.TurnedRows.{closed_box, closed_none}
use Rattle.mpw_shapes.proofs.turn.turn_state.Goals as goal

pub returns-in_ok-stack_box-clause-squares : goal.returns-in_ok-stack_box-clause-squares
returns-in_ok-stack_box-clause-squares c =
    let f : FitsSigned w64 c.past-after.result.winding = search rules in
    λ s. closed_box c.args.edge c.args.state c.past-after.result c.args.band.low c.args.band.high _
    _ _ s c.past-after.ensures (omega (arith, ints)) c.box_to.ensures
    (c.in_ok-stack_box.ensures.squares s)

pub returns-else-after-eq0-clause-squares : goal.returns-else-after-eq0-clause-squares
returns-else-after-eq0-clause-squares c =
    λ s. closed_none c.args.edge c.args.state c.past-after.result c.args.band.low c.args.band.high _
    s c.past-after.ensures (λ z. c.if-after-eq0.false (omega (arith, ints)))
