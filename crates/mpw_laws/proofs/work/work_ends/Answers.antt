-- Answers to the goals of `work_ends` in `src/work.rt`.
use Rattle.mpw_laws.proofs.EndLemmas.{work_ends}
use Rattle.mpw_laws.proofs.work.work_ends.Goals as goal

pub returns : goal.returns
returns c = work_ends c.tests_are_exact.ensures
