-- Answers to the goals of `rows_are_at_their_places` in `src/laws.rt`.
use Rattle.mpw_store.proofs.EntryLemmas.{at_their_places}
use Rattle.mpw_store.proofs.laws.rows_are_at_their_places.Goals as goal

pub returns : goal.returns
returns c = at_their_places
