-- Answers to the goals of `taking_counts_alone` in `src/runs.rt`.
use Rattle.mpw_laws.proofs.Staying.{counts_alone}
use Rattle.mpw_laws.proofs.runs.taking_counts_alone.Goals as goal

pub returns : goal.returns
returns c = counts_alone
