-- The invariants of the loops of `are_counterparts` in `src/block.rt`.
use Rattle.std.proofs.Common.{◌-ℤ◌}
use Rattle.mpw_columns.specs.Internal.Blocks.{AreCounterparts}
use Rattle.mpw_columns.proofs.block.are_counterparts.Given as goal

abbrev pub invariant-loop-k : goal.invariant-loop-k
invariant-loop-k l =
    AreCounterparts l.fn.all.list.now l.fn.earlier.whole (l.fn.block.whole.from -ℤ l.fn.earlier.whole.from)
    l.fn.earlier.place l.fn.block.place l.k
