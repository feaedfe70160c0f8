-- The invariants of the loops of `path_rectangles` in `src/path.rt`.
use Rattle.std.proofs.Common.{length}
use Rattle.mpw_shapes.proofs.Laid.{Laid}
use Rattle.mpw_shapes.proofs.path.path_rectangles.Given as goal

abbrev pub invariant-loop-rest : goal.invariant-loop-rest
invariant-loop-rest l = Laid l.path l.wire l.rest l.boxes.items

abbrev pub decreases-loop-rest : goal.decreases-loop-rest
decreases-loop-rest l = length l.rest
