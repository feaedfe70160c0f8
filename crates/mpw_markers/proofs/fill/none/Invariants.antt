-- The invariants of the loops of `none` in `src/fill.rt`.
use Rattle.std.proofs.Common.{◌≡◌, length}
use Rattle.mpw_markers.proofs.fill.none.Given as goal

abbrev pub invariant-loop-place : goal.invariant-loop-place
invariant-loop-place l = length l.mets.items ≡ l.place
