-- Both names have numbers, and the new pair is added after the others.
use Rattle.std.proofs.Common.{◌≡◌, ◌∙◌, sym, ap, subst, true, true≢false}
use Rattle.mpw_roles.specs.Hierarchy.{with_pair}
use Rattle.mpw_roles.specs.Internal.Table.{IsTable, entries_of, has_number}
use Rattle.mpw_roles.specs.declared.pairs.Pair.{Pair}
use Rattle.mpw_roles.proofs.EntryLemmas.{role-number, role-unnumbered, with-pair-entries}
use Rattle.mpw_roles.proofs.PairLemmas.{between-pair}
use Rattle.mpw_roles.proofs.NumberLemmas.{name-numbered}
use Rattle.mpw_roles.proofs.BoolLemmas.{and_both}
use Rattle.mpw_roles.proofs.table.Table.add_pair.Goals as goal

pub returns-in_default-clause-ok : goal.returns-in_default-clause-ok
returns-in_default-clause-ok c =
    let in' = c.self.inside in
    absurd (true≢false (sym (rw (← c.self.view_is) at c.requires.senior)
    ∙ role-unnumbered in'.names in'.pairs.items in'.order.items c.self.invariant.known
    c.args.senior.now (sym c.in_default.ensures.number)))

pub returns-in_default-number-clause-ok : goal.returns-in_default-number-clause-ok
returns-in_default-number-clause-ok c =
    let in' = c.self.inside in
    absurd (true≢false (sym (rw (← c.self.view_is) at c.requires.junior)
    ∙ role-unnumbered in'.names in'.pairs.items in'.order.items c.self.invariant.known
    c.args.junior.now (sym c.in_default-number.ensures.number)))

pub invariant_of-self-2 : goal.invariant_of-self-2
invariant_of-self-2 c =
    let in' = c.self.inside in
    let inv = c.self.invariant in
    let ns = in'.names in
    let ps = in'.pairs.items in
    let os = in'.order.items in
    let p : Pair = record { senior = c.in-Some.senior; junior = c.in-Some-number.junior } in
    let senior : has_number os p.senior ≡ true =
    sym (role-number ns ps os inv.known inv.names_once c.args.senior.now p.senior
    c.in-Some.ensures.number) ∙ (rw (← c.self.view_is) at c.requires.senior) in
    let junior : has_number os p.junior ≡ true =
    sym (role-number ns ps os inv.known inv.names_once c.args.junior.now p.junior
    c.in-Some-number.ensures.number) ∙ (rw (← c.self.view_is) at c.requires.junior) in
    subst (λ l. IsTable ns l os) (sym c.in_ok-push.ensures.items) (record {
      names_once = inv.names_once;
      once = inv.once;
      known = inv.known;
      between =
          between-pair ps os p inv.between (and_both (has_number os p.senior) _ senior junior);
    })

pub returns-clause-ok : goal.returns-clause-ok
returns-clause-ok c =
    let in' = c.self.inside in
    let inv = c.self.invariant in
    let ns = in'.names in
    let ps = in'.pairs.items in
    let os = in'.order.items in
    let p : Pair = record { senior = c.in-Some.senior; junior = c.in-Some-number.junior } in
    let a = c.args.senior.now in
    ap (λ l. entries_of ns l os) c.in_ok-push.ensures.items
    ∙ sym (with-pair-entries ns ps os inv.known inv.names_once inv.once inv.between p a
    c.in-Some.ensures.number)
    ∙ ap (with_pair (entries_of ns ps os) a)
    (sym (name-numbered ns c.args.junior.now p.junior c.in-Some-number.ensures.number))
    ∙ ap (λ h. with_pair h a c.args.junior.now) c.self.view_is
