-- Answers to the goals of `windows_reach_no_further` in `src/grid_laws.rt`.
use Rattle.mpw_tiles.proofs.Reach.{window_reach}
use Rattle.mpw_tiles.proofs.grid_laws.windows_reach_no_further.Goals as goal

pub returns : goal.returns
returns c = window_reach
