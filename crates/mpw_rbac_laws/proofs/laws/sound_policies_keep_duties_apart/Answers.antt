-- Answers to the goals of `sound_policies_keep_duties_apart` in `src/laws.rt`.
use Rattle.mpw_rbac_laws.proofs.ApartLemmas.{static-apart, dynamic-apart}
use Rattle.mpw_rbac_laws.proofs.laws.sound_policies_keep_duties_apart.Goals as goal

pub returns : goal.returns
returns c = record { static_sets = static-apart; dynamic_sets = dynamic-apart }
