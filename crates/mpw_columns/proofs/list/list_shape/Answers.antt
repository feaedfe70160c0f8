-- Answers to the goals of `list_shape` in `src/list.rt`.
use Rattle.mpw_walk.specs.Way.{item_of}
use Rattle.mpw_columns.proofs.Showing.{shape_shown}
use Rattle.mpw_columns.proofs.list.list_shape.Goals as goal

pub returns : goal.returns
returns c =
    shape_shown c.args.layers.now c.args.axis c.args.listed.now.items c.list_boxes.new.listed.items
    (item_of c.args.placed.now) c.as_slice.result.now c.in_ok-boxes.boxes.items c.in-Some.shape
    c.in-Some.ensures.some c.as_slice.ensures.value c.in_ok-boxes.ensures.squares
    c.in_ok-list_boxes.ensures
