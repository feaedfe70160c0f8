-- Answers to the goals of `hull` in `src/search.rt`.
use Rattle.mpw_markers.proofs.search.hull.Goals as goal
use Rattle.mpw_markers.proofs.Filled.{within_joined, within_all}

pub loop-item-preserved : goal.loop-item-preserved
loop-item-preserved c = within_joined c.args.items.now c.loop-item.item-index c.loop-item.hull
    c.join-hull.result c.loop-item-test.true c.loop-item.invariant c.join-hull.ensures

pub returns : goal.returns
returns c = within_all c.args.items.now c.loop-item.item-index c.loop-item.hull
    c.loop-item-test.false c.loop-item.invariant
