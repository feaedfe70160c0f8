-- Answers to the goals of `shapes_are_no_references` in `src/laws.rt`.
use Rattle.mpw_walk.proofs.Shaped.{roots_shapes, number_shapes}
use Rattle.mpw_walk.proofs.laws.shapes_are_no_references.Goals as goal

pub returns : goal.returns
returns c = record { roots = roots_shapes; submissions = number_shapes }
