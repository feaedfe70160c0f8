-- Answers to the goals of `places_are_of_their_keys` in `src/laws.rt`.
use Rattle.mpw_markers.proofs.Found.{place_is}
use Rattle.mpw_markers.proofs.laws.places_are_of_their_keys.Goals as goal

pub returns : goal.returns
returns c = place_is
