-- The other roles stay in their order.
use Rattle.std.proofs.Common.{◌∙◌, ap}
use Rattle.mpw_geom.specs.Names.{without_name}
use Rattle.mpw_roles.specs.Hierarchy.{Hierarchy, role_names}
use Rattle.mpw_roles.proofs.CallerLemmas.{names-without_role}
use Rattle.mpw_rbac.proofs.RowFacts.{removed-role}
use Rattle.mpw_rbac.proofs.hierarchy.without_role.Goals as goal

pub without_role-requires : goal.without_role-requires
without_role-requires c =
    let h = c.in_ok-roles.roles in
    let role = c.args.role.now in
    ap role_names (removed-role h role c.remove.new.self c.in_ok-remove.ensures.ok)
    ∙ names-without_role h role
    ∙ ap (λ (k : Hierarchy). without_name (role_names k) role)
    (c.in_ok-roles.ensures ∙ c.roles.ensures)
