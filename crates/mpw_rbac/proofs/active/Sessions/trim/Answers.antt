-- Each session is trimmed by itself, and its mask is made.
use Rattle.std.proofs.Common.{rules, ◌∙◌, ap}
use Rattle.mpw_rbac.specs.Masked.{AreAuthorized, KeptSessions}
use Rattle.mpw_rbac.specs.Policy.{is_user, kept_roles, kept_sessions}
use Rattle.mpw_rbac.specs.Internal.Policy.{users_and_roles}
use Rattle.mpw_rbac.specs.declared.session.Session.{Session}
use Rattle.mpw_rbac.proofs.SessionLemmas.{sessions-retained}
use Rattle.mpw_rbac.proofs.active.Sessions.trim.Goals as goal

pub returns-clause-kept : goal.returns-clause-kept
returns-clause-kept c =
    let p = users_and_roles c.args.users.now.users c.args.roles.now in
    let right : AreAuthorized c.args.roles.now c.args.users.now = c.requires in
    let left = sessions-retained _ (λ (s : Session). is_user p s.user) (kept_roles p)
    c.args.roles.now _ (λ e b g after call. search (rules, right)) _ _
    c.retain_mut.ensures.filtered in
    left.0 ∙ ap (λ (k : KeptSessions). kept_sessions p k.sessions) c.self.view_is

pub returns-clause-acting : goal.returns-clause-acting
returns-clause-acting c =
    let p = users_and_roles c.args.users.now.users c.args.roles.now in
    let right : AreAuthorized c.args.roles.now c.args.users.now = c.requires in
    let left = sessions-retained _ (λ (s : Session). is_user p s.user) (kept_roles p)
    c.args.roles.now _ (λ e b g after call. search (rules, right)) _ _
    c.retain_mut.ensures.filtered in
    left.1
