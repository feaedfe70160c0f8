-- The invariants of the loops of `add_column` in `src/divide.rt`.
use Rattle.mpw_columns.proofs.divide.+add_column.Given as goal

abbrev pub decreases-add_column : goal.decreases-add_column
decreases-add_column l = l.depth
