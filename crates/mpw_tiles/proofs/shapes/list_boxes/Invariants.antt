-- The invariants of the loops of `list_boxes` in `src/shapes.rt`.
use Rattle.std.proofs.Common.{take}
use Rattle.mpw_tiles.specs.Internal.Listing.{AddsSquares, HasPlacedSquare}
use Rattle.mpw_tiles.proofs.shapes.list_boxes.Given as goal

abbrev pub invariant-loop-b : goal.invariant-loop-b
invariant-loop-b l = AddsSquares l.plan l.initial.lists.items l.lists.items
    (HasPlacedSquare (take l.b-index l.boxes) l.shape)
