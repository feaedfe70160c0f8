-- Answers to the goals of `lists_make_the_layout` in `src/laws.rt`.
use Rattle.mpw_columns.proofs.LayoutMade.{lists_make}
use Rattle.mpw_columns.proofs.laws.lists_make_the_layout.Goals as goal

pub returns : goal.returns
returns c = lists_make (record {
  decides = c.test_decides_pair_steps.ensures;
  lie = c.squares_lie_in_boxes.ensures.layers;
}) c.columns_make_the_layout.ensures c.no_shapes_no_markers.ensures
    c.shapes_come_from_the_shelf.ensures
