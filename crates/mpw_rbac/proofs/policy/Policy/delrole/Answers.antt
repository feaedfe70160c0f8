-- The role is removed everywhere, and then the sessions are trimmed.
use Rattle.std.proofs.Common.{◌≡◌, ◌∙◌, sym, ap, subst, true, false, ◌||◌, Ok}
use Rattle.mpw_roles.specs.Hierarchy.{is_role, role_names}
use Rattle.mpw_separation.specs.Separation.{uses_role}
use Rattle.mpw_rbac.specs.Policy.{Policy, policy_of, trim, kept_sessions}
use Rattle.mpw_rbac.specs.Internal.Policy.{users_and_roles}
use Rattle.mpw_rbac.specs.Rows as rows
use Rattle.mpw_rbac.specs.Sound.{Sound}
use Rattle.mpw_rbac.proofs.KeepLemmas.{unused}
use Rattle.mpw_rbac.proofs.KeepTrimmed.{keep-delrole}
use Rattle.mpw_rbac.proofs.RowFacts.{delrole-ok}
use Rattle.mpw_rbac.proofs.RowFacts.{removed-role}
use Rattle.mpw_rbac.specs.Masked.{AreActing, AreAuthorized}
use Rattle.mpw_separation.specs.Placed.{AreSetsPlaced}
use Rattle.mpw_rbac.proofs.Shown.{shown}
use Rattle.mpw_rbac.proofs.policy.Policy.delrole.Goals.{After-place}
use Rattle.mpw_rbac.proofs.policy.Policy.delrole.Goals as goal

-- no set uses the role, and the policy after it
left : (c : After-place)
    → ((uses_role (shown c.self.inside).ssd c.args.role.now || uses_role (shown c.self.inside).dsd
    c.args.role.now) ≡ false)
    × (policy_of c.in_ok-users.users.users c.in_ok-permissions.permissions.roles
    c.in_ok-permissions.permissions.granted c.place.new.self.sets c.trim.new.self.sessions
    ≡ trim (rows.without_role_of (shown c.self.inside) c.args.role.now))
left c =
    let in' = c.self.inside in
    let role = c.args.role.now in
    let h = removed-role in'.permissions.roles role c.in_ok-permissions.permissions.roles
    c.in_ok-permissions.ensures.ok in
    let sessions = c.trim.ensures.kept ∙ (λ i. kept_sessions
    (users_and_roles (c.in_ok-users.ensures.same i) ((c.roles-roles.ensures ∙ h) i))
    in'.sessions.sessions) in (
      ap (λ (q : Policy). uses_role q.ssd role || uses_role q.dsd role) c.self.view_is
          ∙ c.in_ok-may_delete_role.ensures.unused,
      λ i. policy_of (c.in_ok-users.ensures.same i) (h i)
          (c.in_ok-permissions.ensures.ungranted i) (c.place.ensures.sets i) (sessions i),
    )

pub invariant_of-self : goal.invariant_of-self
invariant_of-self c =
    let is = left (goal.at.invariant_of-self c).After-place in
    let by_no_set = unused is.0 in
    record {
      sound = subst Sound (sym is.1) (keep-delrole (shown c.self.inside) c.args.role.now by_no_set.0
          by_no_set.1 c.self.invariant.sound);
      authorized = subst (λ h. AreAuthorized h c.in_ok-users.users) c.roles-roles.ensures
          c.in_ok-users.ensures.masks;
      acting = subst (λ h. AreActing h c.trim.new.self) c.roles-roles.ensures c.trim.ensures.acting;
      placed = subst (λ h. AreSetsPlaced (role_names h) c.place.new.self) c.roles-roles.ensures
          c.place.ensures.placed;
    }

pub returns-clause-ok : goal.returns-clause-ok
returns-clause-ok c =
    let p = shown c.self.inside in
    let is = left (goal.at.returns-clause-ok c).After-place in
    let known : is_role p.roles c.args.role.now ≡ true =
    ap (λ (q : Policy). is_role q.roles c.args.role.now) c.self.view_is
    ∙ c.in_ok-may_delete_role.ensures.known in
    rw (← c.self.view_is) (delrole-ok p c.args.role.now known is.0 ∙ ap Ok (sym is.1))
