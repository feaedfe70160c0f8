-- The invariants of the loops of `has` in `src/block.rt`.
use Rattle.std.proofs.Common.{◌≡◌, false, take}
use Rattle.std.specs.List.{list_any}
use Rattle.mpw_permissions.specs.Grant.{grant_eq}
use Rattle.mpw_permissions.proofs.block.has.Given as goal

-- none of the grants so far is the one
abbrev pub invariant-loop-other : goal.invariant-loop-other
invariant-loop-other l = list_any (grant_eq l.grant) (take l.other-index l.grants) ≡ false
