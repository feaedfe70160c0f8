-- The first grant is to the first role.
use Rattle.std.proofs.Common.{◌∙◌, ap, ◌||◌, false}
use Rattle.mpw_roles.specs.Hierarchy.{is_role}
use Rattle.mpw_roles.proofs.CallerLemmas.{name_eq-refl}
use Rattle.mpw_permissions.specs.declared.permission.Grant.{Grant}
use Rattle.mpw_rbac.proofs.policy.first_permissions.Goals as goal

pub new-requires : goal.new-requires
new-requires c =
    (λ i. is_role (c.in_ok-roles.ensures i)
    (ap (λ (g : Grant). g.role) c.first_grant-grant.ensures i))
    ∙ ap (λ b. b || false) (name_eq-refl c.args.role)
