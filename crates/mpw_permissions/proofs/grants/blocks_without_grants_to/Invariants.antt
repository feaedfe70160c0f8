-- The invariants of the loops of `blocks_without_grants_to` in `src/grants.rt`.
use Rattle.std.proofs.Common.{◌≡◌, take}
use Rattle.std.specs.List.{flat_map}
use Rattle.mpw_permissions.specs.Grant.{ungranted}
use Rattle.mpw_permissions.proofs.grants.blocks_without_grants_to.Given as goal

abbrev pub invariant-loop-block : goal.invariant-loop-block
invariant-loop-block l = flat_map (λ b. b) l.left.items
    ≡ ungranted (flat_map (λ b. b) (take l.block-index l.blocks)) l.role
