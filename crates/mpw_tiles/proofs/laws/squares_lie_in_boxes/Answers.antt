-- Answers to the goals of `squares_lie_in_boxes` in `src/laws.rt`.
use Rattle.mpw_tiles.proofs.Bounds.{in_boxes, in_extents, layers_in_extents, in_plane}
use Rattle.mpw_tiles.proofs.laws.squares_lie_in_boxes.Goals as goal

pub returns : goal.returns
returns c = record {
  boxes = in_boxes;
  extents = in_extents c.extents_are_least_boxes.ensures.holds;
  layers = layers_in_extents c.extents_are_least_boxes.ensures.holds;
  plane = in_plane c.extents_are_least_boxes.ensures.holds
      c.roots_show_what_their_submissions_do.ensures.extent;
}
