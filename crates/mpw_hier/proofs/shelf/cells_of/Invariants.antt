-- The invariants of the loops of `cells_of` in `src/shelf.rt`.
use Rattle.std.proofs.Common.{◌≡◌, map, take}
use Rattle.mpw_hier.proofs.shelf.cells_of.Given as goal

abbrev pub invariant-loop-submission : goal.invariant-loop-submission
invariant-loop-submission l = l.cells ≡ map (λ s. s.cell) (take l.submission-index l.fn.submissions)
