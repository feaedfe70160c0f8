-- The mask is made again.
use Rattle.std.proofs.Common.{◌∙◌, ap, subst}
use Rattle.mpw_rbac.specs.Masked.{IsBelow}
use Rattle.mpw_rbac.specs.Policy.{Policy}
use Rattle.mpw_rbac.proofs.policy.Policy.without_active_role.Goals as goal

pub returns-clause-acting : goal.returns-clause-acting
returns-clause-acting c = subst (λ h. IsBelow h c.new.result.session.active c.new.result.acting)
    (c.roles.ensures ∙ ap (λ (p : Policy). p.roles) c.self.view_is) c.new.ensures.acting
