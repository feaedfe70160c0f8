-- The invariants of the loops of `are_ruled` in `src/stitch.rt`.
use Rattle.std.proofs.Common.{take}
use Rattle.std.specs.Prelude.{All}
use Rattle.mpw_firm_parts.specs.Stitching.{IsRuled}
use Rattle.mpw_firm_parts.proofs.stitch.are_ruled.Given as goal

abbrev pub invariant-loop-key : goal.invariant-loop-key
invariant-loop-key l = All (IsRuled l.fn.rules) (take l.key-index l.fn.keys)
