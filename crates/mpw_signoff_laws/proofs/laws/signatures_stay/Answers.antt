-- Answers to the goals of `signatures_stay` in `src/laws.rt`.
use Rattle.mpw_signoff_laws.proofs.SignedOnce as laws
use Rattle.mpw_signoff_laws.proofs.laws.signatures_stay.Goals as goal

pub returns : goal.returns
returns c = laws.signatures_stay
