-- Answers to the goals of `each_window_decides` in `src/laws.rt`.
use Rattle.mpw_tiles.proofs.Tiles.{decides, decides_rows}
use Rattle.mpw_tiles.proofs.laws.each_window_decides.Goals as goal

pub returns : goal.returns
returns c = record { runs = decides; rows = decides_rows }
