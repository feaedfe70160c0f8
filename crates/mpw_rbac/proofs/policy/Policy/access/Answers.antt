-- The mask that is stored next to the session.
use Rattle.std.proofs.Common.{◌∙◌, ap}
use Rattle.mpw_roles.specs.Places.{is_place_below}
use Rattle.mpw_rbac.specs.Policy.{Policy}
use Rattle.mpw_rbac.specs.Rows.{active_roles}
use Rattle.mpw_rbac.proofs.policy.Policy.access.Goals as goal

pub invariant_of-result : goal.invariant_of-result
invariant_of-result c = λ place.
    c.acting.ensures c.self.inside.permissions.roles c.self.invariant.acting place
    ∙ ap (λ (p : Policy). is_place_below p.roles (active_roles p c.args.connection) place)
    c.self.view_is
