-- The invariants of the loops of `Columns::part` in `src/block.rt`.
use Rattle.std.proofs.Common.{◌<◌}
use Rattle.mpw_columns.proofs.block.Columns.part.Given as goal

abbrev pub invariant-loop-k : goal.invariant-loop-k
invariant-loop-k l = record {
  some : 0 < l.part;
  fewer : l.part < l.count;
}
