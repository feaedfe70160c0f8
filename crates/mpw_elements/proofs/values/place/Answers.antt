-- Answers to the goals of `place` in `src/values.rt`.
use Rattle.mpw_elements.proofs.Shapes.{near_point}
use Rattle.mpw_elements.proofs.values.place.Goals as goal

pub returns-clause-reach : goal.returns-clause-reach
returns-clause-reach c = near_point c.point.result c.point.ensures.near
