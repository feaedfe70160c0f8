-- Answers to the goals of `displaced_columns_find_displaced_runs` in `src/laws.rt`.
use Rattle.mpw_columns.proofs.Displacing.{displaced_runs}
use Rattle.mpw_columns.proofs.laws.displaced_columns_find_displaced_runs.Goals as goal

pub returns : goal.returns
returns c = displaced_runs
