-- Answers to the goals of `join_runs` in `src/runs.rt`.
use Rattle.std.proofs.Common.{sym, subst, ◌∙◌, List, arith}
use Rattle.std.specs.Prelude.{All, ◌↔◌}
use Rattle.std.proofs.lemmas.Result.{IfOk-weaker}
use Rattle.std.proofs.lemmas.List.{nil_from_length}
use Rattle.std.proofs.lemmas.List.Sorted.{All-permutation}
use Rattle.mpw_region.specs.declared.runs.Run.{Run}
use Rattle.mpw_region.specs.Runs.{IsFilled, CoversPlace}
use Rattle.mpw_region.specs.Internal.Order.{AreInOrder}
use Rattle.mpw_region.proofs.Joins.{no_run, first_and_rest, same_places-permutation}
use Rattle.mpw_region.proofs.runs.join_runs.Goals as goal

pub returns-in-empty-clause-places : goal.returns-in-empty-clause-places
returns-in-empty-clause-places c = λ line at.
    let moved = c.in_order-runs.ensures.moved in
    let empty = nil_from_length c.in_order-runs.result.items (omega arith) in
    let same =
    same_places-permutation c.args.runs.items c.in_order-runs.result.items moved line at in
    rw c.new.ensures.items (rw empty at same)

pub are_apart-requires-clause-filled : goal.are_apart-requires-clause-filled
are_apart-requires-clause-filled c =
    subst (λ (zs : List Run). All IsFilled zs) (sym c.as_slice.ensures.value)
    (All-permutation IsFilled c.args.runs.items c.in_order-runs.result.items
    c.in_order-runs.ensures.moved c.requires)

pub returns-then-are_apart-clause-places : goal.returns-then-are_apart-clause-places
returns-then-are_apart-clause-places c = same_places-permutation c.args.runs.items
    c.in_order-runs.result.items c.in_order-runs.ensures.moved

pub join-requires-clause-filled : goal.join-requires-clause-filled
join-requires-clause-filled c =
    subst (λ (zs : List Run). All IsFilled zs)
    (sym (first_and_rest c.as_slice-2.result.now no_run c.in-len1-up.len_at_least
    ∙ c.as_slice-2.ensures.value))
    (All-permutation IsFilled c.args.runs.items c.in_order-runs.result.items
    c.in_order-runs.ensures.moved c.requires)

pub join-requires-clause-ordered : goal.join-requires-clause-ordered
join-requires-clause-ordered c =
    subst (λ (zs : List Run). AreInOrder zs)
    (sym (first_and_rest c.as_slice-2.result.now no_run c.in-len1-up.len_at_least
    ∙ c.as_slice-2.ensures.value))
    c.in_order-runs.ensures.ordered

pub returns-clause-places : goal.returns-clause-places
returns-clause-places c =
    let e = first_and_rest c.as_slice-2.result.now no_run c.in-len1-up.len_at_least
    ∙ c.as_slice-2.ensures.value in
    let same = same_places-permutation c.args.runs.items c.in_order-runs.result.items
    c.in_order-runs.ensures.moved in
    IfOk-weaker c.join.result _ _
    (λ v h line at.
    let told = subst (λ (zs : List Run). CoversPlace v.items line at ↔ CoversPlace zs line at) e
    (h line at) in
    (λ p. (same line at).0 (told.0 p), λ p. told.1 ((same line at).1 p)))
    c.join.ensures.places
