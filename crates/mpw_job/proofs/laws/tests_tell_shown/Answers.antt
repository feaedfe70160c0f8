-- Answers to the goals of `tests_tell_shown` in `src/laws.rt`.
use Rattle.mpw_job.proofs.Shapes.{tests_tell}
use Rattle.mpw_job.proofs.laws.tests_tell_shown.Goals as goal

pub returns : goal.returns
returns c = tests_tell
