-- The invariants of the loops of `path_box` in `src/size_shape.rt`.
use Rattle.std.proofs.Common.{length}
use Rattle.mpw_hier.proofs.ElementBoxes.{IsBoxedTo}
use Rattle.mpw_hier.proofs.size_shape.path_box.Given as goal

abbrev pub invariant-loop-rest : goal.invariant-loop-rest
invariant-loop-rest l = IsBoxedTo l.path l.wire l.rest l.extent

abbrev pub decreases-loop-rest : goal.decreases-loop-rest
decreases-loop-rest l = length l.rest
