-- Answers to the goals of `clean_runs_are_signed_off` in `src/desk.rt`.
use Rattle.mpw_laws.proofs.WaiverLemmas.{clean-told}
use Rattle.mpw_laws.proofs.desk.clean_runs_are_signed_off.Goals as goal

pub returns : goal.returns
returns c = clean-told c.clean_is_signed_off.ensures
