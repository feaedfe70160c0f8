-- Answers to the goals of `askers_stay` in `src/laws.rt`.
use Rattle.mpw_signoff_laws.proofs.SignedOnce as laws
use Rattle.mpw_signoff_laws.proofs.laws.askers_stay.Goals as goal

pub returns : goal.returns
returns c = laws.askers_stay
