-- The invariants of the loops of `areas_of` in `src/layers.rt`.
use Rattle.mpw_job.proofs.Areas.{HaveSquares}
use Rattle.mpw_work.proofs.layers.areas_of.Given as goal

abbrev pub invariant-loop-rectangle : goal.invariant-loop-rectangle
invariant-loop-rectangle l = HaveSquares l.rectangles l.layer l.rectangle-index l.areas.items
