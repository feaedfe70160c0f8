-- The invariants of the loops of `join` in `src/stitching.rt`.
use Rattle.std.proofs.Common.{◌-◌, length}
use Rattle.mpw_markers.proofs.Joins.{Joins}
use Rattle.mpw_markers.proofs.Referred.{seen}
use Rattle.mpw_markers.proofs.stitching.join.Given as goal

abbrev pub invariant-loop-start : goal.invariant-loop-start
invariant-loop-start l = Joins (seen l.markers) l.start l.book.items

abbrev pub decreases-loop-start : goal.decreases-loop-start
decreases-loop-start l = length l.markers - l.start
