-- Answers to the goals of `each_point_has_one_core` in `src/grid_laws.rt`.
use Rattle.mpw_tiles.proofs.Cells.{only_cell, numbered}
use Rattle.mpw_tiles.proofs.grid_laws.each_point_has_one_core.Goals as goal

pub returns : goal.returns
returns c = record { one = only_cell; numbered = numbered }
