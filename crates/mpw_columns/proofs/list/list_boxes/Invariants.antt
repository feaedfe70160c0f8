-- The invariants of the loops of `list_boxes` in `src/list.rt`.
use Rattle.std.proofs.Common.{take}
use Rattle.mpw_tiles.specs.Internal.Listing.{HasPlacedSquare}
use Rattle.mpw_columns.specs.Internal.Listed.{AddsSeen}
use Rattle.mpw_columns.proofs.list.list_boxes.Given as goal

abbrev pub invariant-loop-b : goal.invariant-loop-b
invariant-loop-b l = AddsSeen l.axis l.initial.listed.items l.listed.items
    (HasPlacedSquare (take l.b-index l.boxes) l.shape)
