-- Answers to the goals of `add_boxes` in `src/shapes.rt`.
use Rattle.std.proofs.Common.{[], take}
use Rattle.mpw_tiles.specs.Listing.{HasSquareOf}
use Rattle.mpw_tiles.specs.Internal.Listing.{HasPlacedSquare}
use Rattle.mpw_tiles.proofs.Showing.{no_boxes, boxes_at}
use Rattle.mpw_firm_picture.proofs.Adding.{adds_none, adds_next, in_plane}
use Rattle.mpw_firm_picture.proofs.shapes.add_boxes.Goals as goal

pub loop-b-init : goal.loop-b-init
loop-b-init c =
    adds_none c.args.window.now c.args.rectangles.now.items (HasPlacedSquare [] c.args.shape.now)
    (λ s layer origin u h. no_boxes c.args.shape.now layer origin s h)

pub loop-b-preserved : goal.loop-b-preserved
loop-b-preserved c =
    let shape = c.args.shape.now in
    let i = c.loop-b.b-index in
    let boxes = c.args.boxes.now in
    adds_next c.args.window.now c.args.rectangles.now.items c.loop-b.rectangles.items
    c.add_rectangle.new.rectangles.items (HasPlacedSquare (take i boxes) shape)
    (HasSquareOf c.rectangle.result) _
    (λ s layer origin u. boxes_at boxes i _ shape c.rectangle.result c.loop-b-test.true
    c.rectangle.ensures layer origin s (in_plane c.args.window.now s c.requires.plane u))
    c.loop-b.invariant c.in_ok-add_rectangle.ensures.ok
