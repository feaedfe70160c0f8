-- The assignment is removed, and then the sessions are trimmed.
use Rattle.std.proofs.Common.{◌≡◌, ◌∙◌, sym, ap, subst, true, Ok}
use Rattle.mpw_geom.specs.Names.{name_eq, contains_name, without_name}
use Rattle.mpw_rbac.specs.Policy.{Policy, assigned_roles, trim, kept_sessions}
use Rattle.mpw_rbac.specs.Internal.Policy.{users_and_roles}
use Rattle.mpw_rbac.specs.Rows as rows
use Rattle.mpw_rbac.specs.Sound.{Sound}
use Rattle.mpw_rbac.specs.Table.{with_value, insert_entry}
use Rattle.mpw_rbac.proofs.KeepTrimmed.{keep-deassign}
use Rattle.mpw_rbac.proofs.RowFacts.{deassign-ok, assigned-user}
use Rattle.mpw_rbac.proofs.Shown.{shown}
use Rattle.mpw_rbac.proofs.TableLemmas.{insert-present}
use Rattle.mpw_rbac.specs.Masked.{AreActing, AreAuthorized}
use Rattle.mpw_rbac.proofs.policy.Policy.deassign.Goals.{After-trim}
use Rattle.mpw_rbac.proofs.policy.Policy.deassign.Goals as goal

-- the role is assigned, and the policy after it
left : (c : After-trim)
    → (contains_name (assigned_roles c.args.self.now c.args.user.now) c.args.role.now ≡ true)
    × (record (shown c.self.inside) {
      users = c.in_ok-users.users.users;
      sessions = c.trim.new.self.sessions;
    }
    ≡ trim (rows.with_assigned c.args.self.now c.args.user.now
    (without_name (assigned_roles c.args.self.now c.args.user.now) c.args.role.now)))
left c =
    let q = c.args.self.now in
    let user = c.args.user.now in
    let role = c.args.role.now in
    let there = sym c.is_assigned.ensures ∙ c.if-not-is_assigned.false in
    let assigned : c.in_ok-users.users.users ≡ with_value name_eq q.users user
    (record {
      digest = rows.digest_of_user q user;
      roles = without_name (assigned_roles q user) role;
    }) =
    c.in_ok-users.ensures.same ∙ (λ i. insert_entry name_eq (c.self.view_is i).users
    user (c.in_ok-assigned.ensures i))
    ∙ insert-present name_eq q.users user _ (assigned-user q user role there) in
    let sessions = c.trim.ensures.kept ∙ (λ i. kept_sessions
    (users_and_roles (assigned i) ((c.roles-roles.ensures
    ∙ ap (λ (p : Policy). p.roles) c.self.view_is) i))
    (c.self.view_is i).sessions) in (
      there,
      λ i. record (c.self.view_is i) { users = assigned i; sessions = sessions i },
    )

pub invariant_of-self : goal.invariant_of-self
invariant_of-self c =
    let is = left (goal.at.invariant_of-self c).After-trim in
    record {
      sound = subst Sound (sym is.1) (keep-deassign c.args.self.now c.args.user.now c.args.role.now
          (subst Sound c.self.view_is c.self.invariant.sound));
      authorized = subst (λ h. AreAuthorized h c.in_ok-users.users) c.roles-roles.ensures
          c.in_ok-users.ensures.masks;
      acting = subst (λ h. AreActing h c.trim.new.self) c.roles-roles.ensures c.trim.ensures.acting;
      placed = c.self.invariant.placed;
    }

pub returns-clause-ok : goal.returns-clause-ok
returns-clause-ok c =
    let is = left (goal.at.returns-clause-ok c).After-trim in
    deassign-ok c.args.self.now c.args.user.now c.args.role.now is.0 ∙ ap Ok (sym is.1)

pub with-requires : goal.with-requires
with-requires c = subst (λ h. AreAuthorized h c.self.inside.users) (sym c.roles-roles.ensures)
    c.self.invariant.authorized
