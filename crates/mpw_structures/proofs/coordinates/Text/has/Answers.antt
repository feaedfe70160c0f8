-- Answers to the goals of `Text::has` in `src/coordinates.rt`.
use Rattle.std.proofs.Common.{sym, ◌∙◌}
use Rattle.mpw_structures.proofs.TextPoints.{points_next, same_if_not_apart}
use Rattle.mpw_structures.proofs.coordinates.Text.has.Goals as goal

pub loop-index-preserved : goal.loop-index-preserved
loop-index-preserved c =
    points_next c.args.self.now.unit c.args.self.now.bytes.value.items c.args.at c.loop-index.index
    c.args.points.now _ c.loop-index-test.true c.loop-index.invariant
    (sym c.point.ensures ∙ same_if_not_apart c.point.result _ (sym c.if-ne.false ∙ c.ne.ensures))
