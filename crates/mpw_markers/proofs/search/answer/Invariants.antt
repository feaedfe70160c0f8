-- The invariants of the loops of `answer` in `src/search.rt`.
use Rattle.std.proofs.Common.{take}
use Rattle.mpw_markers.proofs.Shared.{Collects}
use Rattle.mpw_markers.proofs.search.answer.Given as goal

abbrev pub invariant-loop-rectangle : goal.invariant-loop-rectangle
invariant-loop-rectangle l =
    Collects l.common (take l.rectangle-index l.rectangles) l.b l.numbers.items
