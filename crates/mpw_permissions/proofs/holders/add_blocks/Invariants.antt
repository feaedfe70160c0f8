-- The invariants of the loops of `add_blocks` in `src/holders.rt`.
use Rattle.std.proofs.Common.{List, ◌++◌, take}
use Rattle.std.specs.List.{flat_map}
use Rattle.mpw_roles.specs.Hierarchy.{role_names}
use Rattle.mpw_permissions.specs.Internal.Holders.{IsHeld}
use Rattle.mpw_permissions.specs.declared.permission.Grant.{Grant}
use Rattle.mpw_permissions.proofs.holders.add_blocks.Given as goal

abbrev pub invariant-loop-block : goal.invariant-loop-block
invariant-loop-block l = (done : List Grant)
    → IsHeld (role_names l.roles) done l.operation l.fn.holders
    → IsHeld (role_names l.roles) (done ++ flat_map (λ b. b) (take l.block-index l.blocks))
    l.operation l.holders
