-- Answers to the goals of `is_ring` in `src/shape.rt`.
use Rattle.std.proofs.Common.{◌-◌, length, refl, sym}
use Rattle.mpw_structures.specs.Element.{is_manhattan_step}
use Rattle.mpw_structures.specs.Coordinates.{no_point}
use Rattle.mpw_elements.proofs.Steps.{closed_steps, not_empty}
use Rattle.mpw_elements.proofs.shape.is_ring.Goals as goal

pub returns-then-not-is_manhattan : goal.returns-then-not-is_manhattan
returns-then-not-is_manhattan c =
    let ps = c.args.points.now in
    rw (
      closed_steps is_manhattan_step no_point ps (length ps - 1)
          (not_empty (length ps) c.if-is_empty.ensures),
      sym c.is_manhattan.ensures,
      c.if-not-is_manhattan.true,
    ) refl

pub returns : goal.returns
returns c =
    let ps = c.args.points.now in
    rw (
      closed_steps is_manhattan_step no_point ps (length ps - 1)
          (not_empty (length ps) c.if-is_empty.ensures),
      sym c.is_manhattan.ensures,
      c.if-not-is_manhattan.false,
    ) c.is_step.ensures
