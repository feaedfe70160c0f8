-- Answers to the goals of `no_shapes_no_markers` in `src/laws.rt`.
use Rattle.mpw_job.proofs.Edges.{none_without}
use Rattle.mpw_job.proofs.laws.no_shapes_no_markers.Goals as goal

pub returns : goal.returns
returns c = none_without c.test_decides_pair_steps.ensures c.squares_lie_in_boxes.ensures.extents
