-- A new role is added at the end.
use Rattle.std.proofs.Common.{◌∙◌, ap, inr, [], ◌∷◌, ◌++◌}
use Rattle.mpw_roles.specs.Hierarchy.{role_names}
use Rattle.mpw_roles.proofs.RoleLemmas.{names-with_role}
use Rattle.mpw_rbac.proofs.RowLemmas.{added-role}
use Rattle.mpw_rbac.proofs.hierarchy.with_role.Goals as goal

pub with_roles-requires : goal.with_roles-requires
with_roles-requires c =
    let h = c.in_ok-roles.roles in
    let role = c.args.role in inr (
      role,
      ap role_names (added-role h role c.add.new.self c.in_ok-add.ensures.ok)
          ∙ names-with_role h role
          ∙ ap (λ k. role_names k ++ role ∷ []) (c.in_ok-roles.ensures ∙ c.roles.ensures),
    )
