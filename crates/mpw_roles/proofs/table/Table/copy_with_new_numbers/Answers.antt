-- The names in the order of the roles, and the pairs by indexes.
use Rattle.std.proofs.Common.{◌≡◌, ◌∙◌, sym, ap, subst, map, length, arith}
use Rattle.std.specs.List.{range_with_len}
use Rattle.mpw_roles.specs.Internal.Table.{IsTable, entries_of, name_of, placed_pair}
use Rattle.mpw_roles.specs.Order.{are_distinct}
use Rattle.mpw_roles.proofs.NumberLemmas.{distinct-numbered}
use Rattle.mpw_roles.proofs.RenumberLemmas.{renumbered-entries, renumbered-table}
use Rattle.mpw_roles.proofs.table.Table.copy_with_new_numbers.Goals.{In_ok-pairs}
use Rattle.mpw_roles.proofs.table.Table.copy_with_new_numbers.Goals as goal

pub of_names-requires : goal.of_names-requires
of_names-requires c =
    let in' = c.self.inside in
    let inv = c.self.invariant in
    ap are_distinct (c.as_slice.ensures ∙ c.in_ok-listed.ensures
    ∙ ap (map (name_of in'.names)) c.deref.ensures.value)
    ∙ distinct-numbered in'.names in'.order.items inv.known inv.names_once inv.once

-- the names, the numbers and the pairs
names : (c : In_ok-pairs) → map (name_of c.self.inside.names) c.self.inside.order.items
    ≡ c.in_ok-names.names
names c = sym (c.in_ok-names.ensures ∙ c.as_slice.ensures ∙ c.in_ok-listed.ensures
    ∙ ap (map (name_of c.self.inside.names)) c.deref.ensures.value)

order : (c : In_ok-pairs) → range_with_len 0 (length c.self.inside.order.items)
    ≡ c.in_ok-order.order.items
order c =
    let long : c.self.inside.order.len ≡ length c.self.inside.order.items = omega arith in
    sym (c.in_ok-order.ensures ∙ ap (range_with_len 0) (c.len.ensures ∙ long))

pairs : (c : In_ok-pairs) → map (placed_pair c.self.inside.order.items) c.self.inside.pairs.items
    ≡ c.in_ok-pairs.pairs.items
pairs c = sym (c.in_ok-pairs.ensures
    ∙ (λ t. map (placed_pair (c.deref-2.ensures.value t)) (c.deref-3.ensures.value t)))

pub invariant_of-result : goal.invariant_of-result
invariant_of-result c =
    let in' = c.self.inside in
    let at = (goal.at.invariant_of-result c).In_ok-pairs in
    subst (λ l. IsTable l c.in_ok-pairs.pairs.items c.in_ok-order.order.items) (names at)
    (subst (λ l. IsTable (map (name_of in'.names) in'.order.items) l c.in_ok-order.order.items)
    (pairs at)
    (subst (IsTable (map (name_of in'.names) in'.order.items)
    (map (placed_pair in'.order.items) in'.pairs.items)) (order at)
    (renumbered-table in'.names in'.pairs.items in'.order.items c.self.invariant)))

pub returns : goal.returns
returns c =
    let in' = c.self.inside in
    let at = (goal.at.returns c).In_ok-pairs in
    (λ t. entries_of (sym (names at) t) (sym (pairs at) t) (sym (order at) t))
    ∙ renumbered-entries in'.names in'.pairs.items in'.order.items c.self.invariant
    ∙ c.self.view_is
