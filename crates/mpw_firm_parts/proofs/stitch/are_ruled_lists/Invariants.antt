-- The invariants of the loops of `are_ruled_lists` in `src/stitch.rt`.
use Rattle.std.proofs.Common.{take}
use Rattle.mpw_firm_parts.specs.Stitching.{AreRuledLists}
use Rattle.mpw_firm_parts.proofs.stitch.are_ruled_lists.Given as goal

abbrev pub invariant-loop-keys : goal.invariant-loop-keys
invariant-loop-keys l = AreRuledLists l.fn.rules (take l.keys-index l.fn.lists)
