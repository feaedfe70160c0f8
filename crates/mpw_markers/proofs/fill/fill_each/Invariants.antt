-- The invariants of the loops of `fill_each` in `src/fill.rt`.
use Rattle.std.proofs.Common.{take}
use Rattle.mpw_markers.specs.Internal.Search.{Fills}
use Rattle.mpw_markers.proofs.fill.fill_each.Given as goal

abbrev pub invariant-loop-item : goal.invariant-loop-item
invariant-loop-item l =
    Fills l.common l.rectangles (take l.item-index l.items) l.initial.mets.items l.mets.items
