-- The invariants of the loops of `join` in `src/runs.rt`.
use Rattle.std.proofs.Common.{◌∷◌, take}
use Rattle.mpw_region.proofs.Joins.{Joins, BeginsBelow}
use Rattle.mpw_region.proofs.runs.join.Given as goal

abbrev pub invariant-loop-run : goal.invariant-loop-run
invariant-loop-run l = record {
  joins : Joins l.joined.items l.last (l.fn.first ∷ take l.run-index l.rest);
  begins : BeginsBelow l.last l.rest l.run-index;
}
