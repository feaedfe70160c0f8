-- The invariants of the loops of `values_without_assignments` in `src/roster.rt`.
use Rattle.std.proofs.Common.{◌≡◌, take, map}
use Rattle.mpw_geom.specs.Names.{without_name}
use Rattle.mpw_rbac.specs.declared.session.User.{User}
use Rattle.mpw_rbac.proofs.roster.values_without_assignments.Given as goal

abbrev pub invariant-loop-value : goal.invariant-loop-value
invariant-loop-value l = l.copy.items ≡ map (λ (user : User).
    record user { roles = without_name user.roles l.role }) (take l.value-index l.values)
