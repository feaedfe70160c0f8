-- Answers to the goals of `columns_lie_within` in `src/laws.rt`.
use Rattle.mpw_columns.proofs.Planned.{lie_within}
use Rattle.mpw_columns.proofs.laws.columns_lie_within.Goals as goal

pub returns : goal.returns
returns c = lie_within
