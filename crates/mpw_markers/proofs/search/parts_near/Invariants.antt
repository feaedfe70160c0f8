-- The invariants of the loops of `parts_near` in `src/search.rt`.
use Rattle.std.proofs.Common.{take}
use Rattle.mpw_markers.specs.Internal.Search.{AreAlikeIn}
use Rattle.mpw_markers.proofs.search.parts_near.Given as goal

abbrev pub invariant-loop-rectangle : goal.invariant-loop-rectangle
invariant-loop-rectangle l =
    AreAlikeIn l.hull l.common l.found.items (take l.rectangle-index l.rectangles) l.some.items
