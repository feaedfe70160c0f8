-- The invariants of the loops of `has_role` in `src/named.rt`.
use Rattle.std.proofs.Common.{◌≡◌, false, take}
use Rattle.mpw_separation.specs.Separation.{uses_role}
use Rattle.mpw_separation.proofs.named.has_role.Given as goal

-- none of the sets so far has the role
abbrev pub invariant-loop-set : goal.invariant-loop-set
invariant-loop-set l = uses_role (take l.set-index l.sets) l.role ≡ false
