-- Answers to the goals of `activation_is_denied_only_to_the_unauthorized` in `src/laws.rt`.
use Rattle.mpw_rbac_laws.proofs.DenialLemmas.{denies-activate}
use Rattle.mpw_rbac_laws.proofs.laws.activation_is_denied_only_to_the_unauthorized.Goals as goal

pub returns : goal.returns
returns c = denies-activate
