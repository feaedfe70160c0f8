-- The permissions of the decision table are moved in.
use Rattle.std.proofs.Common.{◌≡◌, ◌∙◌, sym, ap, subst, Ok}
use Rattle.mpw_rbac.specs.Policy.{Policy, policy_of}
use Rattle.mpw_rbac.specs.Rows as rows
use Rattle.mpw_rbac.specs.Sound.{Sound}
use Rattle.mpw_rbac.proofs.LawLemmas.{sound-grant}
use Rattle.mpw_rbac.proofs.Shown.{shown}
use Rattle.mpw_rbac.specs.Masked.{AreActing, AreAuthorized}
use Rattle.mpw_roles.specs.Hierarchy.{role_names}
use Rattle.mpw_separation.specs.Placed.{AreSetsPlaced}
use Rattle.mpw_rbac.proofs.policy.Policy.grant.Goals.{In_ok-permissions}
use Rattle.mpw_rbac.proofs.policy.Policy.grant.Goals as goal

-- the decision table of the policy that the fields show, and its roles
accepted : (c : In_ok-permissions)
    → (rows.grant (shown c.self.inside) c.args.grant
    ≡ Ok (record (shown c.self.inside) { granted = c.in_ok-permissions.permissions.granted }))
    × (c.in_ok-permissions.permissions.roles ≡ c.self.inside.permissions.roles)
accepted c =
    let next = c.in_ok-permissions.permissions in (
      subst (λ (q : Policy). rows.grant q c.args.grant
          ≡ Ok (record q { granted = next.granted })) (sym c.self.view_is)
          c.in_ok-permissions.ensures.ok,
      c.in_ok-permissions.ensures.same ∙ ap (λ (q : Policy). q.roles) (sym c.self.view_is),
    )

pub invariant_of-self : goal.invariant_of-self
invariant_of-self c =
    let in' = c.self.inside in
    let p = shown in' in
    let next = c.in_ok-permissions.permissions in
    let row = accepted (goal.at.invariant_of-self c).In_ok-permissions in
    record {
      sound = subst (λ h. Sound (policy_of in'.users.users h next.granted in'.sets.sets
          in'.sessions.sessions)) (sym row.1)
          (sound-grant c.args.grant p (record p { granted = next.granted }) row.0
          c.self.invariant.sound);
      authorized = subst (λ h. AreAuthorized h in'.users) (sym row.1) c.self.invariant.authorized;
      acting = subst (λ h. AreActing h in'.sessions) (sym row.1) c.self.invariant.acting;
      placed =
          subst (λ h. AreSetsPlaced (role_names h) in'.sets) (sym row.1) c.self.invariant.placed;
    }

pub returns-clause-ok : goal.returns-clause-ok
returns-clause-ok c =
    let in' = c.self.inside in
    let row = accepted (goal.at.returns-clause-ok c).In_ok-permissions in
    rw (← c.self.view_is) (row.0 ∙ ap (λ h. Ok
    (policy_of in'.users.users h c.in_ok-permissions.permissions.granted in'.sets.sets
    in'.sessions.sessions)) (sym row.1))
