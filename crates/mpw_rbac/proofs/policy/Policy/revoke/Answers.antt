-- The grant is removed, and the others stay.
use Rattle.std.proofs.Common.{◌≡◌, ◌∙◌, sym, ap, subst, true, Ok, not, filter}
use Rattle.std.specs.List.{list_any}
use Rattle.mpw_permissions.specs.Grant.{grant_eq}
use Rattle.mpw_permissions.specs.Permissions.{Permissions}
use Rattle.mpw_rbac.specs.Policy.{Policy, policy_of}
use Rattle.mpw_rbac.specs.Sound.{Sound}
use Rattle.mpw_rbac.proofs.KeepLemmas.{keep-granted}
use Rattle.mpw_rbac.proofs.RowFacts.{revoke-ok}
use Rattle.mpw_rbac.specs.Masked.{AreActing, AreAuthorized}
use Rattle.mpw_roles.specs.Hierarchy.{role_names}
use Rattle.mpw_separation.specs.Placed.{AreSetsPlaced}
use Rattle.mpw_rbac.proofs.policy.Policy.revoke.Goals as goal

pub invariant_of-self : goal.invariant_of-self
invariant_of-self c =
    let in' = c.self.inside in
    let next = c.in_ok-permissions.permissions in
    let p = policy_of in'.users.users in'.permissions.roles in'.permissions.granted in'.sets.sets
    in'.sessions.sessions in
    let roles : in'.permissions.roles ≡ next.roles =
    sym (ap (λ (q : Permissions). q.roles) c.in_ok-permissions.ensures) in
    record {
      sound = subst (λ h. Sound (policy_of in'.users.users h next.granted in'.sets.sets
          in'.sessions.sessions)) roles (keep-granted p next.granted c.self.invariant.sound);
      authorized = subst (λ h. AreAuthorized h in'.users) roles c.self.invariant.authorized;
      acting = subst (λ h. AreActing h in'.sessions) roles c.self.invariant.acting;
      placed = subst (λ h. AreSetsPlaced (role_names h) in'.sets) roles c.self.invariant.placed;
    }

pub returns-clause-ok : goal.returns-clause-ok
returns-clause-ok c =
    let in' = c.self.inside in
    let p = policy_of in'.users.users in'.permissions.roles in'.permissions.granted in'.sets.sets
    in'.sessions.sessions in
    let old = c.args.grant.now in
    let known : list_any (grant_eq old) p.granted ≡ true =
    ap (λ (q : Policy). list_any (grant_eq old) q.granted) c.self.view_is
    ∙ sym c.has_grant.ensures ∙ c.if-not-has_grant.false in
    let next = c.in_ok-permissions.permissions in
    let made = c.in_ok-permissions.ensures in
    let is : next.granted ≡ filter (λ other. not (grant_eq old other)) p.granted =
    ap (λ (q : Permissions). q.granted) made in
    rw (← c.self.view_is) (revoke-ok p old next.granted known is
    ∙ ap (λ h. Ok (policy_of in'.users.users h next.granted in'.sets.sets in'.sessions.sessions))
    (sym (ap (λ (q : Permissions). q.roles) made)))
