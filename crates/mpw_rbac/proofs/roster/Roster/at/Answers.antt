-- The user at the index.
use Rattle.std.proofs.Common.{◌∙◌, sym, ap, length, Some, true≢false, inl, inr}
use Rattle.std.specs.Prelude.{slice_get}
use Rattle.std.proofs.lemmas.Bool.{cases_lt, lt-ltb}
use Rattle.mpw_roles.proofs.PositionLemmas.{item-there}
use Rattle.mpw_rbac.proofs.RosterLemmas.{zip-values, nothing-past}
use Rattle.mpw_rbac.proofs.roster.Roster.at.Goals as goal

pub returns-in-Some : goal.returns-in-Some
returns-in-Some c =
    let at = c.in-Some.ensures.lookup.3 in
    let u = c.in-Some.value.now in
    let i = c.args.place in
    rw (← c.self.view_is) (ap Some c.get-in-Some.ensures
    ∙ sym (item-there c.deref.result.now i u u at.0 (sym (at.1 u)))
    ∙ ap (λ l. slice_get l i) (c.deref.ensures.value
    ∙ sym (zip-values c.self.inside.names c.self.inside.values.items c.self.invariant)))

pub returns-in-None : goal.returns-in-None
returns-in-None c =
    let i = c.args.place in
    elim (cases_lt i (length c.deref.result.now)) [
      | inl inside ↦ absurd (true≢false (sym (lt-ltb i (length c.deref.result.now) inside)
          ∙ sym c.in-None.ensures.lookup.0))
      | inr past ↦ rw (← c.self.view_is) (nothing-past c.deref.result.now i past
          ∙ ap (λ l. slice_get l i) (c.deref.ensures.value
          ∙ sym (zip-values c.self.inside.names c.self.inside.values.items c.self.invariant)))
    ]
