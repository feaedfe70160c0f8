-- No session is left.
use Rattle.std.proofs.Common.{sym, ap, subst}
use Rattle.mpw_rbac.specs.Masked.{AreActing, KeptSessions}
use Rattle.mpw_rbac.specs.Policy.{policy_of}
use Rattle.mpw_rbac.specs.Sound.{Sound}
use Rattle.mpw_rbac.proofs.KeepLemmas.{keep-end_all}
use Rattle.mpw_rbac.proofs.MaskedLemmas.{below-nil}
use Rattle.mpw_rbac.proofs.policy.Policy.end_all.Goals as goal

pub invariant_of-self : goal.invariant_of-self
invariant_of-self c =
    let in' = c.self.inside in
    let p = policy_of in'.users.users in'.permissions.roles in'.permissions.granted in'.sets.sets
    in'.sessions.sessions in
    record {
      sound = subst (λ (s : KeptSessions). Sound (record p { sessions = s.sessions }))
          (sym c.clear.ensures) (keep-end_all p c.self.invariant.sound);
      authorized = c.self.invariant.authorized;
      acting = subst (AreActing in'.permissions.roles) (sym c.clear.ensures)
          (below-nil in'.permissions.roles);
      placed = c.self.invariant.placed;
    }

pub returns : goal.returns
returns c =
    let in' = c.self.inside in
    let p = policy_of in'.users.users in'.permissions.roles in'.permissions.granted in'.sets.sets
    in'.sessions.sessions in
    rw (← c.self.view_is) (ap (λ (s : KeptSessions). record p { sessions = s.sessions })
    c.clear.ensures)
