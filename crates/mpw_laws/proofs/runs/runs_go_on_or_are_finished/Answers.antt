-- Answers to the goals of `runs_go_on_or_are_finished` in `src/runs.rt`.
use Rattle.mpw_laws.proofs.Staying.{goes_on}
use Rattle.mpw_laws.proofs.runs.runs_go_on_or_are_finished.Goals as goal

pub returns : goal.returns
returns c = goes_on
