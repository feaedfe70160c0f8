-- Answers to the goals of `earlier_submissions_stay` in `src/laws.rt`.
use Rattle.mpw_hier.proofs.Stays.{earlier_stay}
use Rattle.mpw_hier.proofs.laws.earlier_submissions_stay.Goals as goal

pub returns : goal.returns
returns c = earlier_stay
