-- Answers to the goals of `first_markers_are_listed` in `src/laws.rt`.
use Rattle.mpw_firm_listing.proofs.First.{first_are_listed}
use Rattle.mpw_firm_listing.proofs.laws.first_markers_are_listed.Goals as goal

pub returns : goal.returns
returns c = first_are_listed
