-- Answers to the goals of `window_decides_along` in `src/laws.rt`.
use Rattle.mpw_columns.proofs.Agreeing.{window_along}
use Rattle.mpw_columns.proofs.laws.window_decides_along.Goals as goal

pub returns : goal.returns
returns c = window_along
