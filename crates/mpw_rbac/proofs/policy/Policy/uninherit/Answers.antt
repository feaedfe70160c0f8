-- The pair is removed, and then the sessions are trimmed.
use Rattle.std.proofs.Common.{◌≡◌, ◌∙◌, sym, ap, subst, true, Ok}
use Rattle.mpw_roles.specs.Hierarchy.{is_immediate, without_pair}
use Rattle.mpw_rbac.specs.Policy.{policy_of, trim, kept_sessions}
use Rattle.mpw_rbac.specs.Internal.Policy.{users_and_roles}
use Rattle.mpw_rbac.specs.Sound.{Sound}
use Rattle.mpw_rbac.proofs.InheritLemmas.{uninherit-ok}
use Rattle.mpw_rbac.proofs.KeepTrimmed.{keep-uninherit}
use Rattle.mpw_rbac.proofs.RowFacts.{uninherited-pair}
use Rattle.mpw_rbac.proofs.Shown.{shown}
use Rattle.mpw_rbac.specs.Masked.{AreActing, AreAuthorized}
use Rattle.mpw_separation.specs.Placed.{AreSetsPlaced}
use Rattle.mpw_rbac.proofs.PlacedLemmas.{names-uninherited}
use Rattle.mpw_rbac.proofs.policy.Policy.uninherit.Goals.{After-trim}
use Rattle.mpw_rbac.proofs.policy.Policy.uninherit.Goals as goal

-- the pair existed, and the policy after it
left : (c : After-trim) → (is_immediate (shown c.self.inside).roles c.args.senior.now
    c.args.junior.now ≡ true)
    × (policy_of c.in_ok-users.users.users c.in_ok-permissions.permissions.roles
    c.in_ok-permissions.permissions.granted c.self.inside.sets.sets c.trim.new.self.sessions
    ≡ trim (record (shown c.self.inside) {
      roles = without_pair (shown c.self.inside).roles c.args.senior.now c.args.junior.now;
    }))
left c =
    let in' = c.self.inside in
    let pair = uninherited-pair in'.permissions.roles c.args.senior.now c.args.junior.now
    c.in_ok-permissions.permissions.roles c.in_ok-permissions.ensures.ok in
    let sessions = c.trim.ensures.kept ∙ (λ i. kept_sessions
    (users_and_roles (c.in_ok-users.ensures.same i) ((c.roles-roles.ensures ∙ pair.1) i))
    in'.sessions.sessions) in (
      pair.0,
      λ i. policy_of (c.in_ok-users.ensures.same i) (pair.1 i)
          (c.in_ok-permissions.ensures.same i) in'.sets.sets (sessions i),
    )

pub invariant_of-self : goal.invariant_of-self
invariant_of-self c =
    let in' = c.self.inside in
    let is = left (goal.at.invariant_of-self c).After-trim in
    record {
      sound = subst Sound (sym is.1) (keep-uninherit (shown in') c.args.senior.now c.args.junior.now
          is.0 c.self.invariant.sound);
      authorized = subst (λ h. AreAuthorized h c.in_ok-users.users) c.roles-roles.ensures
          c.in_ok-users.ensures.masks;
      acting = subst (λ h. AreActing h c.trim.new.self) c.roles-roles.ensures c.trim.ensures.acting;
      placed = subst (λ names. AreSetsPlaced names in'.sets)
          (sym (names-uninherited in'.permissions.roles c.args.senior.now c.args.junior.now
          c.in_ok-permissions.permissions.roles c.in_ok-permissions.ensures.ok))
          c.self.invariant.placed;
    }

pub returns-clause-ok : goal.returns-clause-ok
returns-clause-ok c =
    let is = left (goal.at.returns-clause-ok c).After-trim in
    rw (← c.self.view_is)
    (uninherit-ok (shown c.self.inside) c.args.senior.now c.args.junior.now is.0
    ∙ ap Ok (sym is.1))
