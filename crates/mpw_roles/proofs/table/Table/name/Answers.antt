-- The name with the number at the index.
use Rattle.std.proofs.Common.{◌∙◌, sym, arith, length, ap, get_or, true≢false, inl, inr}
use Rattle.std.proofs.lemmas.Bool.{cases_lt, lt-ltb}
use Rattle.mpw_roles.proofs.EntryLemmas.{name-at-place, no-name-at}
use Rattle.mpw_roles.proofs.table.Table.name.Goals as goal

pub returns-in-Some : goal.returns-in-Some
returns-in-Some c =
    let in' = c.self.inside in
    let at = c.in-Some.ensures.lookup.3 in
    let n = c.in-Some.number.now in
    rw (← c.self.view_is) (name-at-place in'.names in'.pairs.items in'.order.items c.args.place n _
    c.self.invariant.known
    (omega (arith, at.0, ap length c.deref.ensures.value))
    (ap (λ l. get_or l c.args.place n) (sym c.deref.ensures.value) ∙ sym (at.1 n))
    c.name.ensures)

pub returns-in-None : goal.returns-in-None
returns-in-None c =
    let in' = c.self.inside in
    elim (cases_lt c.args.place (length c.deref.result.now)) [
      | inl inside ↦ absurd (true≢false
          (sym (lt-ltb c.args.place (length c.deref.result.now) inside)
          ∙ sym c.in-None.ensures.lookup.0))
      | inr past ↦ rw (← c.self.view_is) (no-name-at in'.names in'.pairs.items in'.order.items
          c.args.place (omega (arith, past, ap length c.deref.ensures.value)))
    ]
