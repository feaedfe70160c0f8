-- The invariants of the loops of `items` in `src/fill.rt`.
use Rattle.mpw_markers.proofs.Filled.{AreItemsBefore}
use Rattle.mpw_markers.proofs.fill.items.Given as goal

abbrev pub invariant-loop-place : goal.invariant-loop-place
invariant-loop-place l = AreItemsBefore l.boxes l.place l.items.items
