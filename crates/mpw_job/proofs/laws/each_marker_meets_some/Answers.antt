-- Answers to the goals of `each_marker_meets_some` in `src/laws.rt`.
use Rattle.mpw_job.proofs.Edges.{each_meets}
use Rattle.mpw_job.proofs.laws.each_marker_meets_some.Goals as goal

pub returns : goal.returns
returns c = each_meets c.test_decides_pair_steps.ensures
