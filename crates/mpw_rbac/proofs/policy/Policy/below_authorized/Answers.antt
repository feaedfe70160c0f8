-- The roles at the indexes of the user's mask.
use Rattle.std.proofs.Common.{◌∙◌, sym, ap}
use Rattle.mpw_roles.specs.Order.{roles_below}
use Rattle.mpw_roles.specs.Places.{is_place_below}
use Rattle.mpw_rbac.specs.Policy.{Policy, assigned_roles, authorized}
use Rattle.mpw_rbac.specs.Internal.Policy.{users_and_roles}
use Rattle.mpw_rbac.proofs.policy.Policy.below_authorized.Goals as goal

pub returns : goal.returns
returns c =
    let in' = c.self.inside in
    let h = in'.permissions.roles in
    let user = c.args.user.now in
    let seniors = assigned_roles (users_and_roles in'.users.users h) user in
    c.at_places.ensures seniors
    (λ q. c.authorized_places-authorized.ensures h c.self.invariant.authorized
    q ∙ ap (λ k. is_place_below k seniors q) (sym c.roles.ensures))
    ∙ ap (λ k. roles_below k seniors) c.roles.ensures
    ∙ ap (λ (p : Policy). authorized p user) c.self.view_is
