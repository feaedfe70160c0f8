-- The invariants of the loops of `tile_lists` in `src/check.rt`.
use Rattle.std.proofs.Common.{◌-◌, ◌≤◌}
use Rattle.mpw_check.specs.Lists.{AreOfTiles}
use Rattle.mpw_check.proofs.check.tile_lists.Given as goal

-- the lists are those of the tiles so far
abbrev pub invariant-loop-reached : goal.invariant-loop-reached
invariant-loop-reached g l =
    (l.reached ≤ l.fn.end) × AreOfTiles l.fn.layout.snapshot.now l.fn.first l.reached l.lists.items

abbrev pub decreases-loop-reached : goal.decreases-loop-reached
decreases-loop-reached g l = l.fn.end - l.reached
