-- The invariants of the loops of `add_boxes` in `src/shapes.rt`.
use Rattle.std.proofs.Common.{take}
use Rattle.mpw_tiles.specs.Internal.Listing.{HasPlacedSquare}
use Rattle.mpw_firm_picture.specs.Internal.Adding.{AddsIn}
use Rattle.mpw_firm_picture.proofs.shapes.add_boxes.Given as goal

abbrev pub invariant-loop-b : goal.invariant-loop-b
invariant-loop-b l = AddsIn l.window l.initial.rectangles.items l.rectangles.items
    (HasPlacedSquare (take l.b-index l.boxes) l.shape)
