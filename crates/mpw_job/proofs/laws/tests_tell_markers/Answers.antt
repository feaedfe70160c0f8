-- Answers to the goals of `tests_tell_markers` in `src/laws.rt`.
use Rattle.mpw_job.proofs.Flat.{tests_tell_markers}
use Rattle.mpw_job.proofs.laws.tests_tell_markers.Goals as goal

pub returns : goal.returns
returns c = tests_tell_markers c.test_decides_pair_steps.ensures
