-- Answers to the goals of `tests_are_exact` in `src/laws.rt`.
use Rattle.mpw_run.proofs.Exactness.{exact}
use Rattle.mpw_run.proofs.laws.tests_are_exact.Goals as goal

pub returns : goal.returns
returns c = exact
