-- The invariants of the loops of `last_within` in `src/size.rt`.
use Rattle.std.proofs.Common.{◌≡◌, take}
use Rattle.mpw_firm_picture.specs.Sizes.{last_within}
use Rattle.mpw_firm_picture.proofs.size.last_within.Given as goal

abbrev pub invariant-loop-length : goal.invariant-loop-length
invariant-loop-length l = l.last ≡ last_within l.limit (take l.length-index l.lengths)
