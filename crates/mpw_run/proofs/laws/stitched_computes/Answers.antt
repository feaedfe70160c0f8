-- Answers to the goals of `stitched_computes` in `src/laws.rt`.
use Rattle.mpw_run.proofs.Joining.{computes}
use Rattle.mpw_run.proofs.laws.stitched_computes.Goals as goal

pub returns : goal.returns
returns c = computes
