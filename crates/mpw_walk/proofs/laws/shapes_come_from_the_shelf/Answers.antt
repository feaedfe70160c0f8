-- Answers to the goals of `shapes_come_from_the_shelf` in `src/laws.rt`.
use Rattle.mpw_walk.proofs.Roots.{roots_origins}
use Rattle.mpw_walk.proofs.laws.shapes_come_from_the_shelf.Goals as goal

pub returns : goal.returns
returns c = roots_origins c.shelves_have_their_numbers.ensures.origins
