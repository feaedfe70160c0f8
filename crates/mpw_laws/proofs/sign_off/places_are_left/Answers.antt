-- Answers to the goals of `places_are_left` in `src/sign_off.rt`.
use Rattle.mpw_laws.proofs.PlaceLemmas.{places_left}
use Rattle.mpw_laws.proofs.sign_off.places_are_left.Goals as goal

pub returns : goal.returns
returns c = places_left
