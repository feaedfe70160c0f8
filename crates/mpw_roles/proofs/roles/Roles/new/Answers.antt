-- Answers to the goals of `Roles::new` in `src/roles.rt`.
use Rattle.std.proofs.Common.{sym, subst, arith}
use Rattle.mpw_roles.specs.Places.{IsRoles}
use Rattle.mpw_roles.proofs.RoleLemmas.{IsHierarchy-empty}
use Rattle.mpw_roles.proofs.roles.Roles.new.Goals as goal

pub invariant_of-result : goal.invariant_of-result
invariant_of-result c = subst (λ h. IsRoles h c.new-2.result.items) (sym c.new.ensures)
    (record {
      kept = IsHierarchy-empty;
      masked = record { long = omega arith; exact = λ p inside. absurd (omega arith) };
    })
