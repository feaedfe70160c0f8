-- The invariants of the loops of `add_all` in `src/holders.rt`.
use Rattle.std.proofs.Common.{List, ◌++◌, take}
use Rattle.mpw_roles.specs.Hierarchy.{role_names}
use Rattle.mpw_permissions.specs.Internal.Holders.{IsHeld}
use Rattle.mpw_permissions.specs.declared.permission.Grant.{Grant}
use Rattle.mpw_permissions.proofs.holders.add_all.Given as goal

abbrev pub invariant-loop-grant : goal.invariant-loop-grant
invariant-loop-grant l = (done : List Grant)
    → IsHeld (role_names l.roles) done l.operation l.fn.holders
    → IsHeld (role_names l.roles) (done ++ take l.grant-index l.grants) l.operation l.holders
