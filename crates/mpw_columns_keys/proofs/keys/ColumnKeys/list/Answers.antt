-- Answers to the goals of `ColumnKeys::list` in `src/keys.rt`.
use Rattle.std.proofs.Common.{◌≡◌, ◌∙◌, ◌≤◌, true, false, List, ltb, leb, length, take, ap, sym, subst, rules}
use Rattle.std.specs.Prelude.{filter}
use Rattle.std.specs.List.Sorted.{IsNonDecreasingBy, IsPartitionPoint}
use Rattle.std.proofs.lemmas.List.Sorted.{IsPartitionPoint-from_clause, IsPartitionedBy-leb, IsPartitionedBy-ltb, IsNonDecreasingBy-drop}
use Rattle.mpw_markers.specs.declared.marker.Key.{Key}
use Rattle.mpw_columns_keys.specs.Keys.{list_number, is_of_list}
use Rattle.mpw_columns_keys.proofs.KeyOrder.{numbers_rise, stretch}
use Rattle.mpw_columns_keys.proofs.keys.ColumnKeys.list.Goals as goal

pub returns : goal.returns
returns c =
    let xs = c.as_slice-keys.result.now in
    let number = c.args.number in
    let rise : IsNonDecreasingBy list_number xs =
    subst (IsNonDecreasingBy list_number) (sym c.as_slice-keys.ensures.value) (numbers_rise _ c.self.invariant) in
    let before = c.partition_point-before.result in
    let point = IsPartitionPoint-from_clause (λ k. ltb (list_number k) number) xs before
    c.partition_point-before.ensures.partitioned (IsPartitionedBy-ltb list_number xs number rise)
    (λ a r q k. search rules) in
    let behind = c.split_at.result.1.now in
    let count = c.partition_point-count.result in
    let next = IsPartitionPoint-from_clause (λ k. leb (list_number k) number) behind count
    c.partition_point-count.ensures.partitioned (IsPartitionedBy-leb list_number behind number
    (subst (IsNonDecreasingBy list_number) (sym c.split_at.ensures.back)
    (IsNonDecreasingBy-drop list_number before xs rise))) (λ a r q k. search rules) in
    rw (← c.self.view_is) (c.split_at-2.ensures.front ∙ ap (take count) c.split_at.ensures.back
    ∙ stretch list_number number xs before count c.partition_point-before.ensures.bound
    (subst (λ (ks : List Key). count ≤ length ks) c.split_at.ensures.back
    c.partition_point-count.ensures.bound) point
    (subst (λ (ks : List Key). IsPartitionPoint (λ k. leb (list_number k) number ≡ true)
    (λ k. leb (list_number k) number ≡ false) ks count) c.split_at.ensures.back next)
    ∙ ap (filter (is_of_list number)) c.as_slice-keys.ensures.value)
