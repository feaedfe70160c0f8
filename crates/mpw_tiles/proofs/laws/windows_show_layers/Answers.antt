-- Answers to the goals of `windows_show_layers` in `src/laws.rt`.
use Rattle.mpw_tiles.proofs.Told.{show_layers}
use Rattle.mpw_tiles.proofs.laws.windows_show_layers.Goals as goal

pub returns : goal.returns
returns c = show_layers
