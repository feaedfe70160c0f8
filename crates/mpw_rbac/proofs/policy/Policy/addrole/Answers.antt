-- A new role takes nothing from anybody.
use Rattle.std.proofs.Common.{◌≡◌, sym, subst}
use Rattle.mpw_roles.specs.Hierarchy.{role_names, with_role}
use Rattle.mpw_rbac.specs.Policy.{policy_of}
use Rattle.mpw_rbac.specs.Sound.{Sound}
use Rattle.mpw_rbac.proofs.RowLemmas.{added-role}
use Rattle.mpw_rbac.proofs.KeepLemmas.{keep-addrole}
use Rattle.mpw_rbac.specs.Masked.{AreActing, AreAuthorized}
use Rattle.mpw_separation.specs.Placed.{AreSetsPlaced}
use Rattle.mpw_rbac.proofs.policy.Policy.addrole.Goals as goal

pub invariant_of-self : goal.invariant_of-self
invariant_of-self c =
    let in' = c.self.inside in
    let p = policy_of in'.users.users in'.permissions.roles in'.permissions.granted in'.sets.sets
    in'.sessions.sessions in
    let next = c.in_ok-permissions.permissions in
    let roles : next.roles ≡ with_role p.roles c.args.role = added-role p.roles c.args.role
    next.roles c.in_ok-permissions.ensures.ok in
    let is : policy_of c.in_ok-users.users.users next.roles next.granted c.place.new.self.sets
    c.remask.new.self.sessions ≡ record p { roles = with_role p.roles c.args.role } =
    λ i. policy_of (c.in_ok-users.ensures.same i) (roles i) (c.in_ok-permissions.ensures.same i)
    (c.place.ensures.sets i) (c.remask.ensures.same i) in
    record {
      sound = subst Sound (sym is) (keep-addrole p c.args.role c.self.invariant.sound);
      authorized = subst (λ h. AreAuthorized h c.in_ok-users.users) c.roles-roles.ensures
          c.in_ok-users.ensures.masks;
      acting =
          subst (λ h. AreActing h c.remask.new.self) c.roles-roles.ensures c.remask.ensures.acting;
      placed = subst (λ h. AreSetsPlaced (role_names h) c.place.new.self) c.roles-roles.ensures
          c.place.ensures.placed;
    }
