-- The invariants of the loops of `add_across` in `src/across.rt`.
use Rattle.std.proofs.Common.{take}
use Rattle.mpw_checks.proofs.Rows.{HasAdded}
use Rattle.mpw_checks.proofs.across.add_across.Given as goal

abbrev pub invariant-loop-run : goal.invariant-loop-run
invariant-loop-run l =
    HasAdded l.window l.initial.boxes.items l.boxes.items (take l.run-index l.runs)
