-- Answers to the goals of `lengths_are_exact` in `src/laws.rt`.
use Rattle.mpw_firm_listing.proofs.Exact.{lengths_are}
use Rattle.mpw_firm_listing.proofs.laws.lengths_are_exact.Goals as goal

pub returns : goal.returns
returns c = lengths_are
