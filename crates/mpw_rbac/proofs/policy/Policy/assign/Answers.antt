-- A user is assigned one more role if no set is broken.
use Rattle.std.proofs.Common.{◌≡◌, ◌∙◌, sym, ap, subst, true, false, Ok, Err, [], ◌∷◌, ◌++◌}
use Rattle.mpw_rbac.specs.Table.{insert_entry}
use Rattle.mpw_geom.specs.Names.{name_eq, contains_name}
use Rattle.mpw_roles.specs.Hierarchy.{is_role}
use Rattle.mpw_separation.specs.Separation.{least_broken}
use Rattle.mpw_rbac.specs.Policy.{Policy, is_user, assigned_roles, assigned_lists}
use Rattle.mpw_rbac.specs.Rows as rows
use Rattle.mpw_rbac.specs.Sound.{Sound}
use Rattle.mpw_rbac.specs.declared.refusal.Refusal.TheVariants.{Ssd}
use Rattle.mpw_rbac.specs.declared.session.User.{User}
use Rattle.mpw_rbac.proofs.LawLemmas.{sound-assign_row}
use Rattle.mpw_rbac.proofs.RowFacts.{assign-ok, assign-broken, assign-same}
use Rattle.mpw_rbac.proofs.Shown.{shown}
use Rattle.mpw_rbac.specs.Masked.{AreAuthorized}
use Rattle.mpw_rbac.proofs.policy.Policy.assign.Goals.{After-broken_by_assigned, In_ok-users}
use Rattle.mpw_rbac.proofs.policy.Policy.assign.Goals as goal

-- the tests before that of the sets, and the user that it tests
tested : (c : After-broken_by_assigned) → (is_user c.args.self.now c.args.user.now ≡ true)
    × (is_role c.args.self.now.roles c.args.role.now ≡ true)
    × (contains_name (assigned_roles c.args.self.now c.args.user.now) c.args.role.now ≡ false)
    × (least_broken c.args.self.now.roles c.args.self.now.ssd
    (assigned_lists (rows.with_assigned c.args.self.now c.args.user.now
    (assigned_roles c.args.self.now c.args.user.now ++ c.args.role.now ∷ [])).users)
    ≡ least_broken c.args.self.now.roles c.args.self.now.ssd (c.as_slice.result.now ∷ []))
tested c =
    let p = c.args.self.now in
    let known = c.in_ok-may_assign.ensures.user in
    let asked = c.as_slice.ensures ∙ ap (λ (u : User). u.roles) c.in_ok-assigned.ensures in (
      known,
      c.in_ok-may_assign.ensures.role,
      c.in_ok-may_assign.ensures.new,
      assign-same p c.args.user.now c.args.role.now
          (subst Sound c.self.view_is c.self.invariant.sound)
          known
          ∙ ap (λ l. least_broken p.roles p.ssd (l ∷ [])) (sym asked),
    )

-- the decision table accepts, and the policy after it is sound
accepted : (c : In_ok-users) → Sound
    (record (shown c.self.inside) { users = c.in_ok-users.users.users })
    × (rows.assign c.args.self.now c.args.user.now c.args.role.now
    ≡ Ok (record (shown c.self.inside) { users = c.in_ok-users.users.users }))
accepted c =
    let q = c.args.self.now in
    let user = c.args.user.now in
    let role = c.args.role.now in
    let users = c.in_ok-users.users.users in
    let t = tested (goal.at.In_ok-users c).After-broken_by_assigned in
    let is : users ≡ insert_entry name_eq q.users user
    (record { digest = rows.digest_of_user q user; roles = assigned_roles q user ++ role ∷ [] }) =
    c.in_ok-users.ensures.same ∙ (λ i. insert_entry name_eq (c.self.view_is i).users
    user (c.in_ok-assigned.ensures i)) in
    let row = assign-ok q user role users t.0 t.1 t.2
    (t.3 ∙ sym c.in_default.ensures) is in
    let sound = sound-assign_row user role q (record q { users = users }) row
    (subst Sound c.self.view_is c.self.invariant.sound) in (
      subst (λ (p : Policy). Sound (record p { users = users })) (sym c.self.view_is) sound,
      row ∙ ap (λ (p : Policy). Ok (record p { users = users })) (sym c.self.view_is),
    )

pub returns-in-Some-clause-refused : goal.returns-in-Some-clause-refused
returns-in-Some-clause-refused c =
    let t = tested (goal.at.returns-in-Some-clause-refused c).After-broken_by_assigned in
    assign-broken c.args.self.now c.args.user.now c.args.role.now c.in-Some.name.now t.0 t.1 t.2
    (t.3 ∙ sym c.in-Some.ensures)
    ∙ ap (λ n. Err (Ssd n)) (sym c.in_ok-copy.ensures)

pub invariant_of-self : goal.invariant_of-self
invariant_of-self c = record {
  sound = (accepted (goal.at.invariant_of-self c).In_ok-users).0;
  authorized = subst (λ h. AreAuthorized h c.in_ok-users.users) c.roles.ensures
      c.in_ok-users.ensures.masks;
  acting = c.self.invariant.acting;
  placed = c.self.invariant.placed;
}

pub returns-clause-ok : goal.returns-clause-ok
returns-clause-ok c = (accepted (goal.at.returns-clause-ok c).In_ok-users).1

pub with-requires : goal.with-requires
with-requires c = subst (λ h. AreAuthorized h c.self.inside.users) (sym c.roles.ensures)
    c.self.invariant.authorized
