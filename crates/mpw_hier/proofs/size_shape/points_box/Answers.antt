-- Answers to the goals of `points_box` in `src/size_shape.rt`.
use Rattle.std.proofs.Common.{Some, ◌<◌, length, sym, ap, ◌∙◌, arith}
use Rattle.std.proofs.lemmas.List.{at_drop_all, get_or_default}
use Rattle.mpw_hier.specs.Boxes.{hull, hull_of_points}
use Rattle.mpw_hier.proofs.Hulls.{hull_none}
use Rattle.mpw_hier.proofs.ElementBoxes.{points_on}
use Rattle.mpw_hier.proofs.size_shape.points_box.Goals as goal

pub loop-index-preserved : goal.loop-index-preserved
loop-index-preserved c =
    let less : c.loop-index.index < length c.args.points.now = omega
    (arith, c.loop-index-test.true, c.len-index-end.ensures) in
    points_on c.args.points.now c.loop-index.index _ _ _ _ less
    (c.at.ensures ∙ get_or_default c.args.points.now c.loop-index.index _ _ less)
    (c.hull-extent.ensures ∙ ap (λ b. hull c.loop-index.extent (Some b)) c.at-in-loop-index.ensures)
    c.loop-index.invariant

pub returns : goal.returns
unfolding hull_of_points
returns c =
    sym (hull_none c.loop-index.extent)
    ∙ sym (at_drop_all (λ left. hull c.loop-index.extent (hull_of_points left))
    c.args.points.now c.loop-index.index (omega (arith, c.loop-index-test.false, c.len-index-end.ensures))) ∙ c.loop-index.invariant
