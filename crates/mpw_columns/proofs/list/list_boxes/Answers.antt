-- Answers to the goals of `list_boxes` in `src/list.rt`.
use Rattle.std.proofs.Common.{arith}
use Rattle.std.proofs.lemmas.Int.{ints}
use Rattle.mpw_geom.proofs.Squares.{no_box}
use Rattle.mpw_columns.proofs.Showing.{no_boxes_seen, box_seen, all_boxes_seen}
use Rattle.mpw_columns.proofs.list.list_boxes.Goals as goal

pub loop-b-init : goal.loop-b-init
loop-b-init c = no_boxes_seen c.args.axis c.args.listed.now.items c.args.shape.now

pub loop-b-preserved : goal.loop-b-preserved
loop-b-preserved c =
    box_seen c.args.axis c.args.boxes.now c.loop-b.b-index _ c.args.shape.now
    c.seen_rectangle.result c.rectangle.result c.args.listed.now.items c.loop-b.listed.items _
    c.loop-b-test.true c.rectangle.ensures c.loop-b.invariant c.in_ok-push.ensures.items
    c.seen_rectangle.ensures

pub rectangle-requires : goal.rectangle-requires
rectangle-requires c =
    let area = c.requires c.loop-b.b-index no_box c.loop-b-test.true in
    record { x = omega (arith, ints, area.width); y = omega (arith, ints, area.height) }

pub returns : goal.returns
returns c = all_boxes_seen c.args.axis c.args.boxes.now c.loop-b.b-index c.args.shape.now
    c.args.listed.now.items c.loop-b.listed.items c.loop-b-test.false c.loop-b.invariant
