-- The invariants of the loops of `least_end` in `src/sweep.rt`.
use Rattle.std.proofs.Common.{take}
use Rattle.mpw_region.specs.Internal.Sweep.{IsLeastEnd}
use Rattle.mpw_region.proofs.sweep.least_end.Given as goal

abbrev pub invariant-loop-b : goal.invariant-loop-b
invariant-loop-b l = IsLeastEnd (take l.b-index l.boxes) l.fn.row l.least
