-- Answers to the goals of `added_rows_are_last` in `src/laws.rt`.
use Rattle.mpw_store.proofs.EntryLemmas.{added_last}
use Rattle.mpw_store.proofs.laws.added_rows_are_last.Goals as goal

pub returns : goal.returns
returns c = added_last
