-- Answers to the goals of `State::past` in `src/rows.rt`.
use Rattle.std.proofs.Common.{◌∙◌, ap, arith, rules, FitsSigned}
use Rattle.std.specs.Int.{w64}
use Rattle.std.proofs.lemmas.Int.{ints}
use Rattle.mpw_shapes.specs.Internal.Rows.{raised}
use Rattle.mpw_shapes.proofs.RowStates.{past_opening, past_closing, past_staying}
use Rattle.mpw_shapes.proofs.rows.State.past.Goals as goal

pub returns-then-self-eq0 : goal.returns-then-self-eq0
returns-then-self-eq0 c =
    let f : FitsSigned w64 c.args.self.winding = search rules in
    let g : FitsSigned w64 c.args.edge.x = search rules in
    let k : FitsSigned w64 c.raise-after.result.winding = search rules in
    past_opening c.args.edge c.args.self c.raise-after.result _ _ (omega (arith, ints))
    (c.raise-after.ensures ∙ ap (λ a. raised a c.args.self) c.turn.ensures)
    (omega (arith, ints)) (omega (arith, ints))

pub returns-then-after-eq0 : goal.returns-then-after-eq0
returns-then-after-eq0 c =
    let f : FitsSigned w64 c.args.self.winding = search rules in
    let k : FitsSigned w64 c.raise-after.result.winding = search rules in
    past_closing c.args.edge c.args.self c.raise-after.result _
    (λ z. c.if-self-eq0.false (omega (arith, ints)))
    (c.raise-after.ensures ∙ ap (λ a. raised a c.args.self) c.turn.ensures)
    (omega (arith, ints)) (omega (arith, ints))

pub returns-else-after-eq0 : goal.returns-else-after-eq0
returns-else-after-eq0 c =
    past_staying c.args.edge c.args.self c.raise-after.result
    (λ z. c.if-self-eq0.false (omega (arith, ints)))
    (c.raise-after.ensures ∙ ap (λ a. raised a c.args.self) c.turn.ensures)
    (λ z. c.if-after-eq0.false (omega (arith, ints)))
