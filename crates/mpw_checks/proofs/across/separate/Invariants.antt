-- The invariants of the loops of `separate` in `src/across.rt`.
use Rattle.std.proofs.Common.{take}
use Rattle.mpw_checks.proofs.Rows.{IsApart}
use Rattle.mpw_checks.proofs.across.separate.Given as goal

abbrev pub invariant-loop-b : goal.invariant-loop-b
invariant-loop-b l = IsApart l.window (take l.b-index l.boxes) l.within.items l.across.items
