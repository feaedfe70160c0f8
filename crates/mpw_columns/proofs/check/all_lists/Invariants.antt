-- The invariants of the loops of `all_lists` in `src/check.rt`.
use Rattle.std.proofs.Common.{◌≤◌, ◌-◌, length, take}
use Rattle.std.specs.List.{AllZip}
use Rattle.mpw_columns.specs.Lists.{IsColumnList}
use Rattle.mpw_columns.proofs.check.all_lists.Given as goal

abbrev pub invariant-loop-reached : goal.invariant-loop-reached
invariant-loop-reached g l = (l.reached ≤ length l.fn.batches.own.now.columns.now)
    × AllZip (IsColumnList l.fn.batches.layout.now.snapshot.now) (take l.reached l.fn.batches.own.now.columns.now) l.lists.items

abbrev pub decreases-loop-reached : goal.decreases-loop-reached
decreases-loop-reached g l = length l.fn.batches.own.now.columns.now - l.reached
