-- The acting roles were found when the access was made.
use Rattle.std.proofs.Common.{◌∙◌, ap}
use Rattle.mpw_rbac.specs.Access.{Access}
use Rattle.mpw_rbac.specs.Policy.{permits}
use Rattle.mpw_rbac.specs.Rows.{active_roles}
use Rattle.mpw_rbac.proofs.AccessLemmas.{permits-acting}
use Rattle.mpw_rbac.proofs.access.Access.permits.Goals as goal

pub returns : goal.returns
returns c =
    let a = c.self.inside in
    let object = c.args.object.now in
    c.is_granted_to.ensures (active_roles a.policy.now a.connection) c.self.invariant
    ∙ permits-acting a.policy.now a.connection a.operation object
    ∙ ap (λ (x : Access). permits x.policy x.connection x.operation object) c.self.view_is
