-- The invariants of the loops of `list_all` in `src/fill.rt`.
use Rattle.std.proofs.Common.{take}
use Rattle.mpw_tiles.specs.Listing.{IsListed}
use Rattle.mpw_tiles.specs.Internal.Listing.{AddsSquares}
use Rattle.mpw_tiles.proofs.fill.list_all.Given as goal

abbrev pub invariant-loop-rectangle : goal.invariant-loop-rectangle
invariant-loop-rectangle l = AddsSquares l.plan l.initial.lists.items l.lists.items
    (IsListed (take l.rectangle-index l.rectangles))
