-- Answers to the goals of `static_sets_are_tested_first` in `src/laws.rt`.
use Rattle.mpw_rbac_laws.proofs.DenialLemmas.{static-first}
use Rattle.mpw_rbac_laws.proofs.laws.static_sets_are_tested_first.Goals as goal

pub returns : goal.returns
returns c = static-first
