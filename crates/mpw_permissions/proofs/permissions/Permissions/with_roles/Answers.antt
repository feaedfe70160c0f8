-- No mask changes.
use Rattle.std.proofs.Common.{sym, ap, subst}
use Rattle.mpw_roles.specs.Hierarchy.{role_names}
use Rattle.mpw_permissions.specs.Internal.Holders.{ArePermissions}
use Rattle.mpw_permissions.specs.Permissions.{Permissions, AreMoreNames}
use Rattle.mpw_permissions.proofs.GrantedLemmas.{more-names}
use Rattle.mpw_permissions.proofs.permissions.Permissions.with_roles.Goals as goal

pub invariant_of-result : goal.invariant_of-result
invariant_of-result c =
    let in' = c.self.inside in
    let names = role_names c.args.roles in
    let holders = c.in_ok-holders.holders.value.items in
    let more = subst (λ (p : Permissions). AreMoreNames (role_names p.roles) names)
    (sym c.self.view_is) c.requires in
    subst (λ l. ArePermissions l c.in_ok-granted.granted holders)
    (sym (ap role_names c.in_ok-roles.ensures.ok))
    (subst (λ g. ArePermissions names g holders) (sym c.in_ok-granted.ensures)
    (subst (λ t. ArePermissions names in'.granted t.items) (sym c.in_ok-holders.ensures.cases)
    (more-names (role_names in'.roles.value) names in'.granted in'.holders.value.items
    c.is_hierarchy.ensures.roles_once more c.self.invariant)))
