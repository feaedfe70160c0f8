-- The grants that are left are to roles that are left.
use Rattle.std.proofs.Common.{◌∙◌, sym, ap}
use Rattle.mpw_geom.specs.Names.{without_name}
use Rattle.mpw_roles.specs.Hierarchy.{Hierarchy, role_names}
use Rattle.mpw_permissions.specs.Internal.Holders.{are_to_roles}
use Rattle.mpw_permissions.specs.Permissions.{Permissions}
use Rattle.mpw_permissions.proofs.NamedLemmas.{named-left}
use Rattle.mpw_permissions.proofs.permissions.Permissions.without_role.Goals as goal

pub of-requires : goal.of-requires
of-requires c =
    let in' = c.self.inside in
    let role = c.args.role.now in
    ap (λ (h : Hierarchy). are_to_roles (role_names h) c.in_ok-granted.granted)
    c.in_ok-roles.ensures.ok
    ∙ (λ i. are_to_roles ((c.requires
    ∙ ap (λ (p : Permissions). without_name (role_names p.roles) role) (sym c.self.view_is)) i)
    (c.in_ok-granted.ensures i))
    ∙ named-left (role_names in'.roles.value) role in'.granted c.self.invariant.1
