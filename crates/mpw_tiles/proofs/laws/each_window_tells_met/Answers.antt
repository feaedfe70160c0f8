-- Answers to the goals of `each_window_tells_met` in `src/laws.rt`.
use Rattle.mpw_tiles.proofs.Told.{met_in_window, tell_met}
use Rattle.mpw_tiles.proofs.laws.each_window_tells_met.Goals as goal

pub returns : goal.returns
returns c = record { squares = met_in_window; origins = tell_met }
