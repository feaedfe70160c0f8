-- The invariants of the loops of `sweep` in `src/sweep.rt`.
use Rattle.mpw_shapes.proofs.RowSwept.{Sweeping}
use Rattle.mpw_shapes.proofs.sweep.sweep.Given as goal

abbrev pub invariant-loop-edge : goal.invariant-loop-edge
invariant-loop-edge l = Sweeping l.rows l.top l.edges l.edge-index l.node l.boxes.items
