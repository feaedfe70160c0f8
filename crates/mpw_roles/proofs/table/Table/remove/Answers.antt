-- The role's number is removed, and each pair with it.
use Rattle.std.proofs.Common.{◌∙◌, sym, ap, subst, not, eqb, true≢false, filter}
use Rattle.mpw_roles.specs.Hierarchy.{without_role}
use Rattle.mpw_roles.specs.Internal.Table.{IsTable, entries_of, has_number, is_end}
use Rattle.mpw_roles.specs.declared.pairs.Pair.{Pair}
use Rattle.mpw_roles.proofs.EntryLemmas.{role-unnumbered, without-role-entries}
use Rattle.mpw_roles.proofs.PairLemmas.{juniors-there, between-left}
use Rattle.mpw_roles.proofs.NumberLemmas.{has-filter, once-filter}
use Rattle.mpw_roles.proofs.BoolLemmas.{and_parts}
use Rattle.mpw_roles.proofs.table.Table.remove.Goals as goal

pub returns-in_default : goal.returns-in_default
returns-in_default c =
    let in' = c.self.inside in
    absurd (true≢false (sym (rw (← c.self.view_is) at c.requires)
    ∙ role-unnumbered in'.names in'.pairs.items in'.order.items c.self.invariant.known
    c.args.role.now (sym c.in_default.ensures.number)))

pub invariant_of-self : goal.invariant_of-self
invariant_of-self c =
    let in' = c.self.inside in
    let inv = c.self.invariant in
    let n = c.in-Some.number in
    let os = in'.order.items in
    let left = filter (λ o. not (eqb n o)) os in
    subst (λ l. IsTable in'.names l c.without_number.new.order.items) (sym c.without_ends.ensures)
    (subst (IsTable in'.names (filter (λ (p : Pair). not (is_end n p)) in'.pairs.items))
    (sym c.without_number.ensures) (record {
      names_once = inv.names_once;
      once = once-filter n os inv.once;
      known = λ k there. inv.known k
          (and_parts (has_number os k) (not (eqb n k)) (sym (has-filter n os k) ∙ there)).0;
      between = between-left in'.pairs.items os n inv.between;
    }))

pub returns : goal.returns
returns c =
    let in' = c.self.inside in
    let known = c.self.invariant.known in
    let role = c.args.role.now in
    (λ t. entries_of in'.names (c.without_ends.ensures t) (c.without_number.ensures t))
    ∙ sym (without-role-entries in'.names in'.pairs.items in'.order.items known
    (λ m k there. known k
    (juniors-there in'.pairs.items in'.order.items m c.self.invariant.between k there))
    c.self.invariant.names_once role c.in-Some.number c.in-Some.ensures.number)
    ∙ ap (λ h. without_role h role) c.self.view_is
