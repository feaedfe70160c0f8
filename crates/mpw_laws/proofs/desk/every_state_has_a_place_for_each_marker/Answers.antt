-- Answers to the goals of `every_state_has_a_place_for_each_marker` in `src/desk.rt`.
use Rattle.mpw_laws.proofs.PlaceLemmas.{fit-history}
use Rattle.mpw_laws.proofs.desk.every_state_has_a_place_for_each_marker.Goals as goal

pub returns : goal.returns
returns c = fit-history c.places_are_left.ensures
