-- The invariants of the loops of `first_other` in `src/stitch.rt`.
use Rattle.std.proofs.Common.{take}
use Rattle.mpw_firm_parts.specs.Stitching.{AreAllOf}
use Rattle.mpw_firm_parts.proofs.stitch.first_other.Given as goal

abbrev pub invariant-loop-place : goal.invariant-loop-place
invariant-loop-place l = AreAllOf l.fn.first (take l.place l.fn.parts)
