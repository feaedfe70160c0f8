-- The invariants of the loops of `add_columns` in `src/columns.rt`.
use Rattle.mpw_columns.proofs.columns.+add_columns.Given as goal

abbrev pub decreases-add_columns : goal.decreases-add_columns
decreases-add_columns l = l.depth
