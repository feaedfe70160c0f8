-- Answers to the goals of `second_signatures_are_refused` in `src/laws.rt`.
use Rattle.mpw_signoff_laws.proofs.Seconds as laws
use Rattle.mpw_signoff_laws.proofs.laws.second_signatures_are_refused.Goals as goal

pub returns : goal.returns
returns c = laws.second_signatures_are_refused
