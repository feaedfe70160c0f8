-- Answers to the goals of `column_count` in `src/grid.rt`.
use Rattle.std.proofs.Common.{rules}
use Rattle.mpw_tiles.proofs.Cells.{counted_columns}
use Rattle.mpw_tiles.proofs.grid.column_count.Goals as goal

pub returns-clause-count : goal.returns-clause-count
returns-clause-count c = counted_columns _ _ (search rules) (search rules) c.sides_between.ensures
