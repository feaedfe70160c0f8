-- The invariants of the loops of `Earlier::add` in `src/earlier.rt`.
use Rattle.mpw_columns.proofs.earlier.Earlier.+add.Given as goal

abbrev pub decreases-add : goal.decreases-add
decreases-add l = l.depth
