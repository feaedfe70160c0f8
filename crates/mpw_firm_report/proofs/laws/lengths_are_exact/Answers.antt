-- Answers to the goals of `lengths_are_exact` in `src/laws.rt`.
use Rattle.mpw_firm_report.proofs.Exact.{length_is}
use Rattle.mpw_firm_report.proofs.laws.lengths_are_exact.Goals as goal

pub returns : goal.returns
returns c = length_is
