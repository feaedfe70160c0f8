-- One holder, whose mask is stored.
use Rattle.std.proofs.Common.{◌∙◌, sym, ap, subst, [], ◌∷◌}
use Rattle.mpw_roles.specs.Order.{IsHierarchy}
use Rattle.mpw_separation.specs.Separation.{least_broken}
use Rattle.mpw_rbac.specs.Masked.{IsBelow}
use Rattle.mpw_rbac.specs.Policy.{Policy}
use Rattle.mpw_rbac.proofs.policy.Policy.broken_by_active.Goals as goal

pub returns : goal.returns
returns c = λ is.
    let h = c.self.inside.permissions.roles in
    let seniors = c.args.active.now.session.active in
    c.first_broken.ensures h seniors (subst IsHierarchy c.roles.ensures c.is_hierarchy.ensures)
    c.self.invariant.placed
    (subst (λ (p : Policy). IsBelow p.roles seniors c.args.active.now.acting)
    (sym c.self.view_is) is)
    ∙ ap (λ (p : Policy). least_broken p.roles p.dsd (seniors ∷ [])) c.self.view_is
