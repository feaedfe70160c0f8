-- Answers to the goals of `windows_list_what_is_shown` in `src/laws.rt`.
use Rattle.mpw_tiles.proofs.Told.{list_shown}
use Rattle.mpw_tiles.proofs.laws.windows_list_what_is_shown.Goals as goal

pub returns : goal.returns
returns c = list_shown
