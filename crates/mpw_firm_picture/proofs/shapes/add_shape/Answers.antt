-- Answers to the goals of `add_shape` in `src/shapes.rt`.
use Rattle.mpw_walk.specs.Way.{item_of}
use Rattle.mpw_tiles.specs.Shown.{ShowsSquare}
use Rattle.mpw_tiles.specs.Internal.Listing.{HasPlacedSquare}
use Rattle.mpw_tiles.proofs.Showing.{boxes_show}
use Rattle.mpw_firm_picture.proofs.Adding.{adds_same}
use Rattle.mpw_firm_picture.proofs.shapes.add_shape.Goals as goal

pub returns : goal.returns
returns c =
    let item = item_of c.args.placed.now in
    let boxes = c.in_ok-boxes.boxes.items in
    record {
      ok = adds_same c.args.window.now c.args.rectangles.now.items c.add_boxes.new.rectangles.items
          (HasPlacedSquare boxes c.in-Some.shape) (ShowsSquare item)
          (λ s layer origin u. boxes_show item boxes c.in-Some.shape c.in-Some.ensures.some
          c.in_ok-boxes.ensures.squares layer origin s)
          (rw c.as_slice.ensures.value at c.in_ok-add_boxes.ensures.ok);
    }
