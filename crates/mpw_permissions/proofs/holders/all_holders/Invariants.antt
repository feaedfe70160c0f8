-- The invariants of the loops of `all_holders` in `src/holders.rt`.
use Rattle.std.proofs.Common.{◌≡◌, ◌<◌, ℕ, [], length}
use Rattle.std.specs.Prelude.{slice_index_or}
use Rattle.mpw_roles.specs.Hierarchy.{role_names}
use Rattle.mpw_permissions.specs.Internal.Holders.{IsHeld}
use Rattle.mpw_permissions.proofs.holders.all_holders.Given as goal

abbrev pub invariant-loop-operation : goal.invariant-loop-operation
invariant-loop-operation l = (length l.all.items ≡ l.operation)
    × ((k : ℕ) → k < l.operation → IsHeld (role_names l.roles) l.granted k
    (slice_index_or l.all.items k []))
