-- The invariants of the loops of `solve` in `src/solve.rt`.
use Rattle.mpw_columns.proofs.solve.+solve.Given as goal

abbrev pub decreases-solve : goal.decreases-solve
decreases-solve l = l.depth
