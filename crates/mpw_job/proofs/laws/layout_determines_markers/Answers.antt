-- Answers to the goals of `layout_determines_markers` in `src/laws.rt`.
use Rattle.mpw_job.proofs.Unique.{one_list}
use Rattle.mpw_job.proofs.laws.layout_determines_markers.Goals as goal

pub returns : goal.returns
returns c = one_list c.test_decides_pair_steps.ensures
