-- Answers to the goals of `is_manhattan` in `src/shape.rt`.
use Rattle.std.proofs.Common.{◌-◌, drop, sym, ◌∙◌, arith, length-drop}
use Rattle.mpw_structures.specs.Element.{is_manhattan_step}
use Rattle.mpw_structures.specs.Coordinates.{no_point}
use Rattle.mpw_elements.proofs.Steps.{short_true}
use Rattle.mpw_elements.proofs.shape.is_manhattan.Goals as goal

pub returns : goal.returns
returns c =
    let left = drop (c.loop-index.index - 1) c.args.points.now in
    sym (short_true is_manhattan_step no_point left
    (omega (arith, length-drop (c.loop-index.index - 1) c.args.points.now)))
    ∙ c.loop-index.invariant
