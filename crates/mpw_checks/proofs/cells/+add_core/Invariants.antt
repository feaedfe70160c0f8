-- The invariants of the loops of `add_core` in `src/cells.rt`.
use Rattle.mpw_checks.proofs.cells.+add_core.Given as goal

abbrev pub decreases-add_core : goal.decreases-add_core
decreases-add_core l = l.depth
