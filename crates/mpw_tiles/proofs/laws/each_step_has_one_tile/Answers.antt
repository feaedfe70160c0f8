-- Answers to the goals of `each_step_has_one_tile` in `src/laws.rt`.
use Rattle.mpw_tiles.proofs.Tiles.{one_tile}
use Rattle.mpw_tiles.proofs.laws.each_step_has_one_tile.Goals as goal

pub returns : goal.returns
returns c = one_tile
