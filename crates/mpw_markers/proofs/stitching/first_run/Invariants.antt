-- The invariants of the loops of `first_run` in `src/stitching.rt`.
use Rattle.mpw_markers.proofs.Grouped.{Reaches}
use Rattle.mpw_markers.proofs.Referred.{seen}
use Rattle.mpw_markers.proofs.stitching.first_run.Given as goal

abbrev pub invariant-loop-count : goal.invariant-loop-count
invariant-loop-count l = Reaches (seen l.markers) l.count l.run
