-- The invariants of the loops of `areas_of` in `src/leaf.rt`.
use Rattle.mpw_job.proofs.Areas.{HaveSquares}
use Rattle.mpw_columns.proofs.leaf.areas_of.Given as goal

abbrev pub invariant-loop-rectangle : goal.invariant-loop-rectangle
invariant-loop-rectangle l = HaveSquares l.rectangles l.layer l.rectangle-index l.areas.items
