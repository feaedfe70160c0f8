-- Answers to the goals of `ended_sessions_permit_nothing` in `src/laws.rt`.
use Rattle.std.proofs.Common.{refl}
use Rattle.mpw_rbac.proofs.AccessLemmas.{nothing-permitted}
use Rattle.mpw_rbac_laws.proofs.laws.ended_sessions_permit_nothing.Goals as goal

pub returns : goal.returns
returns c = record { sessions = λ p connection. refl; permits = nothing-permitted }
