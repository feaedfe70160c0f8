-- Answers to the goals of `signed_exactly` in `src/laws.rt`.
use Rattle.mpw_signoff_laws.proofs.Seconds as laws
use Rattle.mpw_signoff_laws.proofs.laws.signed_exactly.Goals as goal

pub returns : goal.returns
returns c = laws.signed_exactly
