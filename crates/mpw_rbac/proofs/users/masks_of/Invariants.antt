-- The invariants of the loops of `masks_of` in `src/users.rt`.
use Rattle.std.proofs.Common.{take, map}
use Rattle.mpw_rbac.specs.Masked.{AreBelow}
use Rattle.mpw_rbac.specs.declared.session.User.{User}
use Rattle.mpw_rbac.proofs.users.masks_of.Given as goal

-- the masks so far are those of the first users
abbrev pub invariant-loop-user : goal.invariant-loop-user
invariant-loop-user l =
    AreBelow l.roles (map (λ (u : User). u.roles) (take l.user-index l.users)) l.masks.items
