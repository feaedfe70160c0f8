-- Answers to the goals of `full_markers_are_not_hidden` in `src/listings.rt`.
use Rattle.mpw_laws.proofs.HiddenLemmas.{full_not_hidden}
use Rattle.mpw_laws.proofs.listings.full_markers_are_not_hidden.Goals as goal

pub returns : goal.returns
returns c = full_not_hidden
