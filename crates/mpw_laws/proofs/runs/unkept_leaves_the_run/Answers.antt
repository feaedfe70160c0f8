-- Answers to the goals of `unkept_leaves_the_run` in `src/runs.rt`.
use Rattle.mpw_laws.proofs.Staying.{stays}
use Rattle.mpw_laws.proofs.runs.unkept_leaves_the_run.Goals as goal

pub returns : goal.returns
returns c = stays
