-- Answers to the goals of `halves` in `src/fill.rt`.
use Rattle.std.proofs.Common.{◌≡◌, List, [], ◌∷◌, ◌++◌, subst, ap, ◌∙◌}
use Rattle.std.specs.List.Sorted.{IsPermutation}
use Rattle.mpw_markers.specs.declared.search.Item.{Item}
use Rattle.mpw_markers.proofs.fill.halves.Goals as goal
use Rattle.mpw_markers.proofs.Filled.{halves_are}

pub returns : goal.returns
returns c =
    let low : List Item = c.parts_at_median-low.result.0.now in
    let median : Item = c.parts_at_median-low.result.1.now in
    let high : List Item = c.parts_at_median-low.result.2.now in
    let before : List Item = c.in_ok-rest.rest.items in
    let one : before ++ median ∷ [] ≡ median ∷ [] = ap (λ (xs : List Item). xs ++ median ∷ [])
    c.in_ok-rest.ensures.items in
    let pushed = c.in_ok-push.ensures.items ∙ one in
    halves_are c.args.items.items low high c.in_ok-low.low.items c.extend_from_slice.new.self.items
    median
    (subst (λ (xs : List Item). IsPermutation xs (low ++ median ∷ high))
    c.as_mut_slice.ensures.value c.parts_at_median-low.ensures)
    c.in_ok-low.ensures.items
    (c.in_ok-extend_from_slice.ensures.items ∙ ap (λ (xs : List Item). xs ++ high) pushed)
