-- Each part is copied.
use Rattle.std.proofs.Common.{◌∙◌, sym, subst}
use Rattle.mpw_separation.specs.Placed.{KeptSets}
use Rattle.mpw_permissions.specs.Permissions.{Permissions}
use Rattle.mpw_rbac.specs.Masked.{IsPolicy, KeptSessions, KeptUsers}
use Rattle.mpw_rbac.specs.Policy.{policy_of}
use Rattle.mpw_rbac.proofs.policy.Policy.copy.Goals as goal

pub invariant_of-result : goal.invariant_of-result
invariant_of-result c =
    let in' = c.self.inside in
    let users = c.in_ok-users.users in
    let permissions = c.in_ok-permissions.permissions in
    let sets = c.in_ok-sets.sets in
    subst (λ (u : KeptUsers). IsPolicy u permissions.roles permissions.granted sets
    c.in_ok-sessions.sessions) (sym c.in_ok-users.ensures)
    (subst (λ (q : Permissions). IsPolicy in'.users q.roles q.granted sets
    c.in_ok-sessions.sessions) (sym c.in_ok-permissions.ensures)
    (subst (λ (s : KeptSets). IsPolicy in'.users in'.permissions.roles in'.permissions.granted s
    c.in_ok-sessions.sessions) (sym c.in_ok-sets.ensures)
    (subst (λ (s : KeptSessions). IsPolicy in'.users in'.permissions.roles in'.permissions.granted
    in'.sets s) (sym c.in_ok-sessions.ensures) c.self.invariant)))

pub returns : goal.returns
returns c =
    (λ i. policy_of (c.in_ok-users.ensures i).users (c.in_ok-permissions.ensures i).roles
    (c.in_ok-permissions.ensures i).granted (c.in_ok-sets.ensures i).sets
    (c.in_ok-sessions.ensures i).sessions)
    ∙ c.self.view_is
