-- Answers to the goals of `whole_keys_are_numbers` in `src/laws.rt`.
use Rattle.mpw_firm_listing.proofs.Whole.{whole_keys}
use Rattle.mpw_firm_listing.proofs.laws.whole_keys_are_numbers.Goals as goal

pub returns : goal.returns
returns c = whole_keys
