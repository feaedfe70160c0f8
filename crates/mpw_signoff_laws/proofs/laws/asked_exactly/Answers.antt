-- Answers to the goals of `asked_exactly` in `src/laws.rt`.
use Rattle.mpw_signoff_laws.proofs.Seconds as laws
use Rattle.mpw_signoff_laws.proofs.laws.asked_exactly.Goals as goal

pub returns : goal.returns
returns c = laws.asked_exactly
