-- The user is removed, and then the sessions are trimmed.
use Rattle.std.proofs.Common.{◌≡◌, ◌∙◌, sym, subst}
use Rattle.mpw_geom.specs.Names.{name_eq}
use Rattle.mpw_rbac.specs.Policy.{policy_of, trim, kept_sessions}
use Rattle.mpw_rbac.specs.Internal.Policy.{users_and_roles}
use Rattle.mpw_rbac.specs.Sound.{Sound}
use Rattle.mpw_rbac.specs.Table.{without_key}
use Rattle.mpw_rbac.proofs.KeepTrimmed.{keep-deluser}
use Rattle.mpw_rbac.specs.Masked.{AreActing, AreAuthorized}
use Rattle.mpw_rbac.proofs.policy.Policy.deluser.Goals as goal

pub invariant_of-self : goal.invariant_of-self
invariant_of-self c =
    let in' = c.self.inside in
    let p = policy_of in'.users.users in'.permissions.roles in'.permissions.granted in'.sets.sets
    in'.sessions.sessions in
    let user = c.args.user.now in
    let left = c.trim.ensures.kept ∙ (λ i. kept_sessions
    (users_and_roles (c.in_ok-users.ensures.same i) (c.roles-roles.ensures i))
    in'.sessions.sessions) in
    let is : policy_of c.in_ok-users.users.users in'.permissions.roles in'.permissions.granted
    in'.sets.sets c.trim.new.self.sessions
    ≡ trim (record p { users = without_key name_eq p.users user }) =
    λ i. policy_of (c.in_ok-users.ensures.same i) in'.permissions.roles in'.permissions.granted
    in'.sets.sets (left i) in
    record {
      sound = subst Sound (sym is) (keep-deluser p user c.self.invariant.sound);
      authorized = subst (λ h. AreAuthorized h c.in_ok-users.users) c.roles-roles.ensures
          c.in_ok-users.ensures.masks;
      acting = subst (λ h. AreActing h c.trim.new.self) c.roles-roles.ensures c.trim.ensures.acting;
      placed = c.self.invariant.placed;
    }
