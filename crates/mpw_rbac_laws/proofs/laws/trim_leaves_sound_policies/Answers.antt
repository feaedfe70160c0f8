-- Answers to the goals of `trim_leaves_sound_policies` in `src/laws.rt`.
use Rattle.mpw_rbac_laws.proofs.TrimLemmas as law
use Rattle.mpw_rbac_laws.proofs.laws.trim_leaves_sound_policies.Goals as goal

pub returns : goal.returns
returns c = law.trim-sound
