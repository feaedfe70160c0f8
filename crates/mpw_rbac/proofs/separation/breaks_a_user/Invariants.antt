-- The invariants of the loops of `breaks_a_user` in `src/separation.rt`.
use Rattle.std.proofs.Common.{◌≡◌, take, false}
use Rattle.mpw_separation.specs.Separation.{is_broken}
use Rattle.mpw_rbac.specs.Policy.{assigned_lists}
use Rattle.mpw_rbac.proofs.separation.breaks_a_user.Given as goal

-- nobody so far breaks the set
abbrev pub invariant-loop-authorized : goal.invariant-loop-authorized
invariant-loop-authorized l =
    is_broken l.roles (take l.authorized-index (assigned_lists l.users.users)) l.set ≡ false
