-- A new set that nobody breaks.
use Rattle.std.proofs.Common.{◌≡◌, ◌∙◌, ◌⊎◌, sym, ap, subst, Ok, Err, [], ◌∷◌, ◌++◌}
use Rattle.std.proofs.lemmas.Result.{err_from_is_err_and}
use Rattle.mpw_separation.specs.Rows.{make}
use Rattle.mpw_separation.specs.Separation.{sets_of}
use Rattle.mpw_separation.specs.declared.fault.SetsFault.TheVariants as set_faults
use Rattle.mpw_rbac.specs.Internal.Kinds.{other, all_sets, kind_sets, with_sets, set_refusal, make_set}
use Rattle.mpw_rbac.specs.Policy.{Policy, policy_of}
use Rattle.mpw_rbac.specs.Sound.{Sound}
use Rattle.mpw_rbac.proofs.KindLemmas.{TellsSet, tells-set, changed-sets, sound-made}
use Rattle.mpw_rbac.proofs.RowFacts.{made-set}
use Rattle.mpw_rbac.proofs.Shown.{with-sets}
use Rattle.mpw_rbac.proofs.policy.Policy.make_set.Goals.{After-is_broken, In_ok-make}
use Rattle.mpw_rbac.proofs.policy.Policy.make_set.Goals as goal

-- the decision table, after its tests of the name and of the roles
row : (c : After-is_broken) → TellsSet c.args.kind c.args.self.now c.args.set
row c =
    let q = c.args.self.now in
    tells-set c.args.kind q c.args.set (subst Sound c.self.view_is c.self.invariant.sound)
    c.in_ok-may_make_set.ensures.new c.in_ok-may_make_set.ensures.roles

-- the policy after it
abbrev left : In_ok-make → Policy
left c =
    let p = c.self.inside in
    policy_of p.users.users p.permissions.roles p.permissions.granted c.make.new.sets.sets
    p.sessions.sessions

accepted : (c : In_ok-make) → Sound (left c)
    × (make_set c.args.kind c.args.self.now c.args.set ≡ Ok (left c))
accepted c =
    let q = c.args.self.now in
    let kind = c.args.kind in
    let set = c.args.set in
    let after = c.make.new.sets.sets in
    let more = kind_sets kind q ++ set ∷ [] in
    let made = made-set (kind_sets kind q) set (sets_of kind after)
    (subst (λ (p : Policy). make (kind_sets kind p) set ≡ Ok (sets_of kind after)) c.self.view_is
    c.in_ok-make.ensures.ok) in
    let ok = (row (goal.at.In_ok-make c).After-is_broken).made
    (sym c.is_broken.ensures ∙ c.if-is_broken.false) made.0 in
    let sets = changed-sets kind (all_sets q) after more made.1 (c.in_ok-make.ensures.others
    ∙ ap (λ (p : Policy). sets_of (other kind) (all_sets p)) c.self.view_is) in
    let is : left c ≡ with_sets kind q more = λ i.
    let p = c.self.view_is i in policy_of p.users p.roles p.granted (sets i) p.sessions in (
      subst Sound (sym is) (sound-made kind set c.in_ok-may_make_set.ensures.form q
          (with_sets kind q more) ok (subst Sound c.self.view_is c.self.invariant.sound)),
      ok ∙ ap Ok (sym is),
    )

pub returns-then-is_broken-clause-refused : goal.returns-then-is_broken-clause-refused
returns-then-is_broken-clause-refused c =
    (row (goal.at.returns-then-is_broken-clause-refused c).After-is_broken).broken
    (sym c.is_broken.ensures ∙ c.if-is_broken.true)
    ∙ ap Err (ap (set_refusal c.args.kind) (sym c.into_name.ensures) ∙ sym c.set_refusal.ensures)

pub returns-in_err-make-clause-refused : goal.returns-in_err-make-clause-refused
returns-in_err-make-clause-refused c =
    let fault = c.in_err-make.field-0.0 in
    let refused = (row (goal.at.returns-in_err-make-clause-refused c).After-is_broken).refused
    (sym c.is_broken.ensures ∙ c.if-is_broken.false) fault
    (subst (λ (p : Policy). (fault ≡ set_faults.Memory)
    ⊎ (make (kind_sets c.args.kind p) c.args.set ≡ Err fault)) c.self.view_is
    c.in_err-make.ensures.refused) in
    let told = err_from_is_err_and c.from_residual-in_err-make.result
    c.from_residual-in_err-make.ensures.1 in
    rw (told.1, told.2) refused

pub invariant_of-self-2 : goal.invariant_of-self-2
invariant_of-self-2 c = with-sets c.self.inside c.roles.result.now c.make.new.sets
    c.self.invariant c.roles.ensures c.in_ok-make.ensures.placed
    (accepted (goal.at.invariant_of-self-2 c).In_ok-make).0

pub returns-clause-ok : goal.returns-clause-ok
returns-clause-ok c = (accepted (goal.at.returns-clause-ok c).In_ok-make).1
