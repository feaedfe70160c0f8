-- Answers to the goals of `list_shape` in `src/shapes.rt`.
use Rattle.mpw_walk.specs.Way.{item_of}
use Rattle.mpw_tiles.specs.Internal.Listing.{HasPlacedSquare}
use Rattle.mpw_tiles.specs.Shown.{ShowsSquare}
use Rattle.mpw_tiles.proofs.Added.{adds_same}
use Rattle.mpw_tiles.proofs.Showing.{boxes_show}
use Rattle.mpw_tiles.proofs.shapes.list_shape.Goals as goal

pub returns : goal.returns
returns c =
    let item = item_of c.args.placed.now in
    let boxes = c.in_ok-boxes.boxes.items in
    record {
      ok = adds_same c.args.plan.now c.args.lists.now.items c.list_boxes.new.lists.items
          (HasPlacedSquare boxes c.in-Some.shape) (ShowsSquare item)
          (λ tile s layer origin u w. boxes_show item boxes c.in-Some.shape
          c.in-Some.ensures.some c.in_ok-boxes.ensures.squares layer origin s)
          (rw c.as_slice.ensures.value at c.in_ok-list_boxes.ensures.ok);
    }
