-- Answers to the goals of `window_decides` in `src/laws.rt`.
use Rattle.mpw_edges.proofs.Window.{window}
use Rattle.mpw_edges.proofs.laws.window_decides.Goals as goal

pub returns : goal.returns
returns c = window
