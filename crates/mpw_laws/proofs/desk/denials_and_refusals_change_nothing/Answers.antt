-- Answers to the goals of `denials_and_refusals_change_nothing` in `src/desk.rt`.
use Rattle.mpw_laws.proofs.RefusalLemmas.{denied-leaves, refused-leaves}
use Rattle.mpw_laws.proofs.desk.denials_and_refusals_change_nothing.Goals as goal

pub returns : goal.returns
returns c = record { denied = denied-leaves; refused = refused-leaves }
