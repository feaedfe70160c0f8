-- The invariants of the loops of `add_intervals` in `src/merge.rt`.
use Rattle.std.proofs.Common.{◌∷◌, take}
use Rattle.mpw_region.proofs.Merging.{Merges, BeginsBefore}
use Rattle.mpw_region.proofs.merge.add_intervals.Given as goal

abbrev pub invariant-loop-b : goal.invariant-loop-b
invariant-loop-b l = record {
  merges : Merges l.initial.out.items l.out.items (l.first ∷ take l.b-index l.rest) l.last l.rows;
  begins : BeginsBefore l.last l.rest l.b-index;
}
