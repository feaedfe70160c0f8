-- Answers to the goals of `fill_each` in `src/fill.rt`.
use Rattle.mpw_markers.proofs.fill.fill_each.Goals as goal
use Rattle.std.proofs.Common.{length}
use Rattle.mpw_markers.proofs.Filled.{Fills-more, can_at}

pub fill_one-requires : goal.fill_one-requires
fill_one-requires c = can_at (length c.args.mets.now.items) (length c.loop-item.mets.items)
    c.args.items.now c.loop-item.item-index c.loop-item-test.true c.loop-item.invariant.count
    c.requires

pub loop-item-preserved : goal.loop-item-preserved
loop-item-preserved c = Fills-more c.args.common.now c.args.rectangles.now c.args.items.now
    c.loop-item.item-index c.args.mets.now.items c.loop-item.mets.items c.fill_one.new.mets.items
    c.loop-item-test.true c.loop-item.invariant c.in_ok-fill_one.ensures
