-- The invariants of the loops of `parts` in `src/halves.rt`.
use Rattle.std.proofs.Common.{take}
use Rattle.mpw_checks.proofs.Parts.{ArePartsOf}
use Rattle.mpw_checks.proofs.halves.parts.Given as goal

abbrev pub invariant-loop-b : goal.invariant-loop-b
invariant-loop-b l = ArePartsOf l.window (take l.b-index l.boxes) l.found.items
