-- The invariants of the loops of `are_filled` in `src/book.rt`.
use Rattle.std.proofs.Common.{take}
use Rattle.std.specs.Prelude.{All}
use Rattle.mpw_markers.specs.Markers.{IsFilled}
use Rattle.mpw_firm_parts.proofs.book.are_filled.Given as goal

abbrev pub invariant-loop-marker : goal.invariant-loop-marker
invariant-loop-marker l = All IsFilled (take l.marker-index l.fn.markers)
