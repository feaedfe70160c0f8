-- Answers to the goals of `roots_at_origin_show_their_submission` in `src/laws.rt`.
use Rattle.mpw_walk.proofs.Roots.{unmoved_fits, unmoved_shapes}
use Rattle.mpw_walk.proofs.laws.roots_at_origin_show_their_submission.Goals as goal

pub returns : goal.returns
returns c = record {
  fits = unmoved_fits c.shelves_have_their_numbers.ensures.limits
      c.extents_are_least_boxes.ensures.placed;
  shapes = unmoved_shapes;
}
