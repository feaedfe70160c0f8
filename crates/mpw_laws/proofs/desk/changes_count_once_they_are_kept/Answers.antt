-- Answers to the goals of `changes_count_once_they_are_kept` in `src/desk.rt`.
use Rattle.mpw_core.proofs.RefusalLemmas.{kept-counts, unkept-closes}
use Rattle.mpw_laws.proofs.desk.changes_count_once_they_are_kept.Goals as goal

pub returns : goal.returns
returns c = record { kept = kept-counts; unkept = unkept-closes }
