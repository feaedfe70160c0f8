-- The answer of the roles and grants is that of the policy.
use Rattle.std.proofs.Common.{◌∙◌, sym, ap}
use Rattle.std.specs.List.{list_any}
use Rattle.mpw_roles.specs.Order.{roles_below}
use Rattle.mpw_roles.specs.Places.{is_place_below}
use Rattle.mpw_rbac.specs.Policy.{Policy}
use Rattle.mpw_permissions.specs.Grant.{is_granted_to}
use Rattle.mpw_rbac.proofs.policy.Policy.is_granted_to.Goals as goal

pub returns : goal.returns
returns c = λ seniors acts.
    c.is_granted_to.ensures seniors (λ q. acts q
    ∙ ap (λ (p : Policy). is_place_below p.roles seniors q) (sym c.self.view_is))
    ∙ ap (λ (p : Policy). list_any (is_granted_to (roles_below p.roles seniors) c.args.operation
    c.args.object.now) p.granted) c.self.view_is
