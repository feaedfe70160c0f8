-- The grants change, and the masks of the operation with them.
use Rattle.std.proofs.Common.{◌≡◌, ◌∙◌, ap, true}
use Rattle.mpw_geom.specs.Names.{contains_name}
use Rattle.mpw_roles.specs.Hierarchy.{Hierarchy, role_names, is_role}
use Rattle.mpw_permissions.specs.Internal.Holders.{are_to_roles}
use Rattle.mpw_permissions.specs.Permissions.{Permissions}
use Rattle.mpw_permissions.proofs.GrantedLemmas.{held-through}
use Rattle.mpw_permissions.proofs.NamedLemmas.{named-after}
use Rattle.mpw_permissions.proofs.permissions.Permissions.after.Goals as goal

pub invariant_of-result : goal.invariant_of-result
invariant_of-result c =
    let in' = c.self.inside in
    let names = role_names in'.roles.value in
    let grant = c.args.grant.now in
    let known : c.args.more ≡ true → contains_name names grant.role ≡ true = λ more.
    ap (λ (p : Permissions). is_role p.roles grant.role) c.self.view_is ∙ c.requires more in (
      held-through c.args.more in'.roles.value c.deref.result.now c.in_ok-roles.roles.value
          in'.granted c.in_ok-granted.granted grant in'.holders.value.items c.deref-3.result.now
          c.in_ok-holders.holders.value.items c.self.invariant.0 c.deref.ensures
          (c.deref-3.ensures.value ∙ ap (λ t. t.items) c.deref-2.ensures) c.in_ok-holders.ensures
          c.in_ok-roles.ensures.cases c.in_ok-granted.ensures,
      ap (λ (h : Hierarchy). are_to_roles (role_names h) c.in_ok-granted.granted)
          c.in_ok-roles.ensures.cases
          ∙ ap (are_to_roles names) c.in_ok-granted.ensures
          ∙ named-after c.args.more names in'.granted grant c.self.invariant.1 known,
    )
