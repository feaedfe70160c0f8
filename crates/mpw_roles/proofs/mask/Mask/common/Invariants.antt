-- The invariants of the loops of `Mask::common` in `src/mask.rt`.
use Rattle.std.proofs.Common.{◌≡◌, ◌*◌}
use Rattle.mpw_roles.proofs.CommonLemmas.{common_upto}
use Rattle.mpw_roles.proofs.mask.Mask.common.Given as goal

-- the indexes in common of the words so far
abbrev pub invariant-words : goal.invariant-words
invariant-words l = l.count ≡ common_upto l.self l.other (l.k * 64)
