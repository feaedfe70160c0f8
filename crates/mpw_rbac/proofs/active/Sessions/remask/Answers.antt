-- Each session stays, and its mask is made.
use Rattle.std.proofs.Common.{rules, ◌∙◌, ap, true}
use Rattle.mpw_rbac.specs.Masked.{KeptSessions, sessions_in}
use Rattle.mpw_rbac.specs.declared.session.Session.{Session}
use Rattle.mpw_rbac.proofs.SessionLemmas.{all-kept, sessions-retained}
use Rattle.mpw_rbac.proofs.active.Sessions.remask.Goals as goal

pub returns-clause-same : goal.returns-clause-same
returns-clause-same c =
    let left = sessions-retained _ (λ (s : Session). true) (λ (s : Session). s) c.args.roles.now _
    (λ e b g after call. search rules) _ _ c.retain_mut.ensures.filtered in
    left.0 ∙ all-kept (sessions_in c.self.inside.table.items)
    ∙ ap (λ (k : KeptSessions). k.sessions) c.self.view_is

pub returns-clause-acting : goal.returns-clause-acting
returns-clause-acting c =
    let left = sessions-retained _ (λ (s : Session). true) (λ (s : Session). s) c.args.roles.now _
    (λ e b g after call. search rules) _ _ c.retain_mut.ensures.filtered in
    left.1
