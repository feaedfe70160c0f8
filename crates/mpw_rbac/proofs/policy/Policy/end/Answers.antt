-- The connection's session is removed, and the others stay.
use Rattle.std.proofs.Common.{sym, ap, subst}
use Rattle.mpw_rbac.specs.Policy.{policy_of}
use Rattle.mpw_rbac.specs.Sound.{Sound}
use Rattle.mpw_rbac.proofs.KeepLemmas.{keep-end}
use Rattle.mpw_rbac.proofs.policy.Policy.end.Goals as goal

pub invariant_of-self : goal.invariant_of-self
invariant_of-self c =
    let in' = c.self.inside in
    let p = policy_of in'.users.users in'.permissions.roles in'.permissions.granted in'.sets.sets
    in'.sessions.sessions in
    record {
      sound = subst (λ s. Sound (record p { sessions = s })) (sym c.remove.ensures.sessions)
          (keep-end p c.args.connection c.self.invariant.sound);
      authorized = c.self.invariant.authorized;
      acting = c.remove.ensures.acting in'.permissions.roles c.self.invariant.acting;
      placed = c.self.invariant.placed;
    }

pub returns : goal.returns
returns c =
    let in' = c.self.inside in
    let p = policy_of in'.users.users in'.permissions.roles in'.permissions.granted in'.sets.sets
    in'.sessions.sessions in
    rw (← c.self.view_is) (ap (λ s. record p { sessions = s }) c.remove.ensures.sessions)
