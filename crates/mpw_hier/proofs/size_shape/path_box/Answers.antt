-- Answers to the goals of `path_box` in `src/size_shape.rt`.
use Rattle.std.proofs.Common.{◌≤◌, ◌∙◌, length, sym, ap, arith}
use Rattle.mpw_hier.specs.Boxes.{hull_of_points}
use Rattle.mpw_hier.proofs.ElementBoxes.{boxed_none, boxed_more, boxed_all, boxed_reach}
use Rattle.mpw_hier.proofs.size_shape.path_box.Goals as goal

pub loop-rest-init : goal.loop-rest-init
loop-rest-init c =
    boxed_none c.args.path.now c.first_wire-wire.result _ _ c.requires c.first_wire-wire.ensures
    c.view-rest.ensures
    (c.points_box-extent.ensures ∙ ap hull_of_points (sym c.view-rest.ensures))

pub segment_box-requires-clause-half : goal.segment_box-requires-clause-half
segment_box-requires-clause-half c =
    boxed_reach c.args.path.now c.loop-rest.wire _ _ c.requires c.loop-rest.invariant

pub loop-rest-preserved : goal.loop-rest-preserved
loop-rest-preserved c =
    let rest = c.loop-rest.rest in
    let least : 2 ≤ length rest = omega (arith, c.loop-rest-test.true, c.len.ensures) in
    boxed_more c.args.path.now c.loop-rest.wire c.from_inner-wire.result rest _ _ _ _ c.requires
    c.loop-rest.invariant least c.behind-rest.ensures c.segment_box.ensures
    c.hull-extent.ensures c.from_inner-wire.ensures

pub returns : goal.returns
returns c = boxed_all c.args.path.now c.loop-rest.wire _ _ c.loop-rest.invariant
    (omega (arith, c.loop-rest-test.false, c.len.ensures))
