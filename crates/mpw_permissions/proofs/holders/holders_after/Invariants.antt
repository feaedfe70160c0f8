-- The invariants of the loops of `holders_after` in `src/holders.rt`.
use Rattle.std.proofs.Common.{◌≡◌, ◌<◌, ℕ, [], length}
use Rattle.std.specs.Prelude.{slice_index_or}
use Rattle.mpw_roles.specs.Hierarchy.{role_names}
use Rattle.mpw_permissions.specs.Internal.Holders.{IsHeldAfter}
use Rattle.mpw_permissions.proofs.holders.holders_after.Given as goal

abbrev pub invariant-loop-operation : goal.invariant-loop-operation
invariant-loop-operation l =
    (length l.next.items ≡ l.operation)
    × ((k : ℕ) → k < l.operation → IsHeldAfter l.more (role_names l.roles) l.grant k
    (slice_index_or l.all k []) (slice_index_or l.next.items k []))
