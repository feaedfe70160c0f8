-- The invariants of the loops of `parts_in` in `src/part.rt`.
use Rattle.mpw_columns.proofs.Parted.{HaveParts}
use Rattle.mpw_columns.proofs.part.parts_in.Given as goal

abbrev pub invariant-loop-rectangle : goal.invariant-loop-rectangle
invariant-loop-rectangle l = HaveParts l.window l.rectangles l.rectangle-index l.found.items
