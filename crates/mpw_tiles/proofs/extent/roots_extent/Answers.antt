-- Answers to the goals of `roots_extent` in `src/extent.rt`.
use Rattle.mpw_hier.proofs.Nearness.{near_hull}
use Rattle.mpw_tiles.proofs.Looking.{hull_more, hull_last}
use Rattle.mpw_tiles.proofs.extent.roots_extent.Goals as goal

pub loop-root-preserved : goal.loop-root-preserved
loop-root-preserved c = rw (c.hull-extent.ensures, c.root_extent.ensures.extent) (record {
  whole = hull_more c.args.shelf.now c.args.roots.now c.loop-root.root-index _ c.loop-root.extent
      c.loop-root-test.true c.loop-root.invariant.whole;
  near = near_hull _ _ c.loop-root.invariant.near
      (rw c.root_extent.ensures.extent at c.root_extent.ensures.near);
})

pub returns-clause-extent : goal.returns-clause-extent
returns-clause-extent c = hull_last c.args.shelf.now c.args.roots.now c.loop-root.root-index
    c.loop-root.extent _ c.loop-root-test.false c.loop-root.invariant.whole
