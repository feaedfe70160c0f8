-- Both names have numbers, and the other pairs stay.
use Rattle.std.proofs.Common.{◌∙◌, sym, ap, subst, not, true≢false}
use Rattle.mpw_roles.specs.Hierarchy.{without_pair}
use Rattle.mpw_roles.specs.Internal.Table.{IsTable, entries_of, is_pair}
use Rattle.mpw_roles.specs.declared.pairs.Pair.{Pair}
use Rattle.mpw_roles.proofs.EntryLemmas.{role-unnumbered, without-pair-entries}
use Rattle.mpw_roles.proofs.PairLemmas.{between-less}
use Rattle.mpw_roles.proofs.table.Table.remove_pair.Goals as goal

pub returns-in_default : goal.returns-in_default
returns-in_default c =
    let in' = c.self.inside in
    absurd (true≢false (sym (rw (← c.self.view_is) at c.requires.senior)
    ∙ role-unnumbered in'.names in'.pairs.items in'.order.items c.self.invariant.known
    c.args.senior.now (sym c.in_default.ensures.number)))

pub returns-in_default-number : goal.returns-in_default-number
returns-in_default-number c =
    let in' = c.self.inside in
    absurd (true≢false (sym (rw (← c.self.view_is) at c.requires.junior)
    ∙ role-unnumbered in'.names in'.pairs.items in'.order.items c.self.invariant.known
    c.args.junior.now (sym c.in_default-number.ensures.number)))

pub invariant_of-self : goal.invariant_of-self
invariant_of-self c =
    let in' = c.self.inside in
    let inv = c.self.invariant in
    subst (λ l. IsTable in'.names l in'.order.items) (sym c.without_pair.ensures) (record {
      names_once = inv.names_once;
      once = inv.once;
      known = inv.known;
      between =
          between-less (λ (p : Pair). not (is_pair c.in-Some.senior c.in-Some-number.junior p))
          in'.pairs.items in'.order.items inv.between;
    })

pub returns : goal.returns
returns c =
    let in' = c.self.inside in
    let inv = c.self.invariant in
    let ns = in'.names in
    let ps = in'.pairs.items in
    let os = in'.order.items in
    let a = c.args.senior.now in
    let b = c.args.junior.now in
    ap (λ l. entries_of ns l os) c.without_pair.ensures
    ∙ sym (without-pair-entries ns ps os inv.known inv.names_once inv.once inv.between a b
    c.in-Some.senior c.in-Some-number.junior c.in-Some.ensures.number
    c.in-Some-number.ensures.number)
    ∙ ap (λ h. without_pair h a b) c.self.view_is
