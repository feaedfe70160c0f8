-- Answers to the goals of `lines_of_shapes_are_no_references` in `src/layouts.rt`.
use Rattle.mpw_laws.proofs.ShapeLines.{shapes_alone}
use Rattle.mpw_laws.proofs.layouts.lines_of_shapes_are_no_references.Goals as goal

pub returns : goal.returns
returns c = shapes_alone c.shapes_are_no_references.ensures.submissions
