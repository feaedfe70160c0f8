-- The invariants of the loops of `first_unruled` in `src/stitch.rt`.
use Rattle.std.proofs.Common.{take}
use Rattle.mpw_firm_parts.specs.Stitching.{HaveRules}
use Rattle.mpw_firm_parts.proofs.stitch.first_unruled.Given as goal

abbrev pub invariant-loop-place : goal.invariant-loop-place
invariant-loop-place l = HaveRules l.fn.rules (take l.place l.fn.parts)
