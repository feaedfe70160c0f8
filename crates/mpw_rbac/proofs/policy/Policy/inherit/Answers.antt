-- A pair that breaks no set.
use Rattle.std.proofs.Common.{◌≡◌, ◌∙◌, sym, ap, subst, Ok, None}
use Rattle.mpw_roles.specs.Hierarchy.{is_role, role_names, with_pair}
use Rattle.std.proofs.lemmas.Result.{err_from_is_err_and}
use Rattle.mpw_separation.specs.Separation.{least_broken}
use Rattle.mpw_rbac.specs.Policy.{Policy, policy_of, assigned_lists, active_lists}
use Rattle.mpw_rbac.specs.Sound.{Sound}
use Rattle.mpw_rbac.specs.Rows as rows
use Rattle.mpw_rbac.proofs.InheritLemmas.{inherit-ok, inherit-refused}
use Rattle.mpw_rbac.proofs.KeepTrimmed.{keep-inherit}
use Rattle.mpw_rbac.proofs.SeparationLemmas.{holds-of_none}
use Rattle.mpw_rbac.specs.Internal.Pairs.{holding}
use Rattle.mpw_rbac.proofs.RowFacts.{inherited-pair}
use Rattle.mpw_roles.specs.Rows as hierarchy
use Rattle.mpw_rbac.specs.Masked.{AreActing, AreAuthorized, AreUsers}
use Rattle.mpw_separation.specs.Placed.{AreSetsPlaced}
use Rattle.mpw_rbac.proofs.PlacedLemmas.{names-inherited}
use Rattle.mpw_rbac.proofs.Shown.{shown}
use Rattle.mpw_rbac.proofs.policy.Policy.inherit.Goals.{After-remask}
use Rattle.mpw_rbac.proofs.policy.Policy.inherit.Goals as goal

-- no set is broken, and the policy after it
paired : (c : After-remask)
    → (least_broken (with_pair (shown c.self.inside).roles c.args.senior.now c.args.junior.now)
    (shown c.self.inside).ssd (assigned_lists (shown c.self.inside).users) ≡ None)
    × (least_broken (with_pair (shown c.self.inside).roles c.args.senior.now c.args.junior.now)
    (shown c.self.inside).dsd (active_lists (shown c.self.inside).sessions) ≡ None)
    × (policy_of c.in_ok-users.users.users c.in_ok-next.next.roles c.in_ok-next.next.granted
    c.self.inside.sets.sets c.remask.new.self.sessions ≡ record (shown c.self.inside) {
      roles = with_pair (shown c.self.inside).roles c.args.senior.now c.args.junior.now;
    })
paired c =
    let q = c.args.self.now in
    let after = inherited-pair c.self.inside.permissions.roles c.args.senior.now c.args.junior.now
    c.in_ok-next.next.roles c.in_ok-next.ensures.ok in (
      (λ i. least_broken (sym after.1 i) (c.self.view_is i).ssd
          (assigned_lists (c.self.view_is i).users))
          ∙ ap (λ h. least_broken h q.ssd (assigned_lists q.users)) (sym c.roles-roles.ensures)
          ∙ c.in_ok-holds_among.ensures.static_sets,
      (λ i. least_broken (sym after.1 i) (c.self.view_is i).dsd
          (active_lists (c.self.view_is i).sessions))
          ∙ ap (λ h. least_broken h q.dsd (active_lists q.sessions)) (sym c.roles-roles.ensures)
          ∙ c.in_ok-holds_among.ensures.dynamic_sets,
      λ i. policy_of (c.in_ok-users.ensures.same i) (after.1 i) (c.in_ok-next.ensures.same i)
          c.self.inside.sets.sets (c.remask.ensures.same i),
    )

pub invariant_of-self : goal.invariant_of-self
invariant_of-self c =
    let p = shown c.self.inside in
    let senior = c.args.senior.now in
    let junior = c.args.junior.now in
    let after = c.in_ok-next.next.roles in
    let made = c.in_ok-next.ensures.ok in
    let is = paired (goal.at.invariant_of-self c).After-remask in
    record {
      sound = subst Sound (sym is.2)
          (keep-inherit p senior junior (inherited-pair p.roles senior junior after made).0
          (holds-of_none (with_pair p.roles senior junior) p.ssd (assigned_lists p.users) is.0)
          (holds-of_none (with_pair p.roles senior junior) p.dsd (active_lists p.sessions) is.1)
          c.self.invariant.sound);
      authorized = subst (λ h. AreAuthorized h c.in_ok-users.users)
          (ap (λ h. with_pair h senior junior) c.roles.ensures
          ∙ sym (inherited-pair p.roles senior junior after made).1) c.in_ok-users.ensures.masks;
      acting =
          subst (λ h. AreActing h c.remask.new.self) c.roles-roles.ensures c.remask.ensures.acting;
      placed = subst (λ names. AreSetsPlaced names c.self.inside.sets)
          (sym (names-inherited p.roles senior junior after made)) c.self.invariant.placed;
    }

pub returns-clause-ok : goal.returns-clause-ok
returns-clause-ok c =
    let p = shown c.self.inside in
    let is = paired (goal.at.returns-clause-ok c).After-remask in
    rw (← c.self.view_is) (inherit-ok p c.args.senior.now c.args.junior.now
    c.in_ok-next.next.roles c.in_ok-next.ensures.ok is.0 is.1 ∙ ap Ok (sym is.2))

pub returns-in_err-holds_among-clause-refused : goal.returns-in_err-holds_among-clause-refused
returns-in_err-holds_among-clause-refused c =
    let p = c.args.self.now in
    let next = c.in_ok-next.next in
    let made : hierarchy.inherit p.roles c.args.senior.now c.args.junior.now ≡ Ok next.roles =
    ap (λ (q : Policy). hierarchy.inherit q.roles c.args.senior.now c.args.junior.now)
    (sym c.self.view_is) ∙ c.in_ok-next.ensures.ok in
    let fault = c.in_err-holds_among.field-0.0 in
    let told = err_from_is_err_and c.from_residual-in_err-holds_among.result
    c.from_residual-in_err-holds_among.ensures.1 in
    rw (told.1, told.2) (inherit-refused p c.args.senior.now c.args.junior.now next.roles made fault
    (subst (λ h. rows.IsFaultOf (holding p h) fault) c.roles-roles.ensures
    c.in_err-holds_among.ensures.refused))

pub holds_among-requires-clause-users : goal.holds_among-requires-clause-users
holds_among-requires-clause-users c =
    let senior = c.args.senior.now in
    let junior = c.args.junior.now in
    let pair = inherited-pair c.self.inside.permissions.roles senior junior
    c.in_ok-next.next.roles c.in_ok-next.ensures.ok in
    subst (λ (q : Policy). AreUsers c.roles-roles.result.now q.users c.in_ok-users.users)
    c.self.view_is
    (subst (λ h. AreUsers h c.self.inside.users.users c.in_ok-users.users)
    (ap (λ h. with_pair h senior junior) c.roles.ensures ∙ sym pair.1 ∙ sym c.roles-roles.ensures)
    c.in_ok-users.ensures)

pub with_joined_masks-requires-clause-authorized : goal.with_joined_masks-requires-clause-authorized
with_joined_masks-requires-clause-authorized c = subst (λ h. AreAuthorized h c.self.inside.users)
    (sym c.roles.ensures) c.self.invariant.authorized

pub with_joined_masks-requires-clause-senior : goal.with_joined_masks-requires-clause-senior
with_joined_masks-requires-clause-senior c =
    ap (λ h. is_role h c.args.senior.now) c.roles.ensures
    ∙ (inherited-pair c.self.inside.permissions.roles c.args.senior.now c.args.junior.now
    c.in_ok-next.next.roles c.in_ok-next.ensures.ok).0

pub holds_among-requires-clause-roles : goal.holds_among-requires-clause-roles
holds_among-requires-clause-roles c =
    ap role_names c.roles-roles.ensures
    ∙ names-inherited c.self.inside.permissions.roles c.args.senior.now c.args.junior.now
    c.in_ok-next.next.roles c.in_ok-next.ensures.ok
    ∙ ap (λ (q : Policy). role_names q.roles) c.self.view_is
