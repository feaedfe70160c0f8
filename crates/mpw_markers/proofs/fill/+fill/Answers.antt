-- Answers to the goals of `fill` in `src/fill.rt`.
use Rattle.mpw_markers.proofs.fill.+fill.Goals as goal
use Rattle.std.proofs.Common.{List, length, subst, sym, inl, inr, arith, refl}
use Rattle.std.proofs.lemmas.Result.{on_ok_weaker}
use Rattle.mpw_markers.specs.declared.search.Item.{Item}
use Rattle.mpw_markers.specs.Internal.Search.{CanBeFilled, Fills}
use Rattle.mpw_markers.proofs.Filled.{Fills-near, Fills-then, can_part, alike_seen, within_seen}

pub fill_each-requires : goal.fill_each-requires
fill_each-requires t c = subst (λ (is : List Item). CanBeFilled (length c.args.mets.now.items) is)
    (sym c.as_slice-then-depth-eq0.ensures.value) c.requires

pub returns-then-depth-eq0 : goal.returns-then-depth-eq0
returns-then-depth-eq0 t c =
    on_ok_weaker c.fill_each.result
    (λ f. Fills-near c.hull-around.result c.args.common.now c.as_slice-common.result.now
    c.args.rectangles.now c.as_slice-some.result.now c.args.items.items c.args.mets.now.items
    c.fill_each.new.mets.items (length c.args.mets.now.items)
    (alike_seen c.hull-around.result c.args.common.now c.args.rectangles.now
    c.in_ok-near.near.common c.as_slice-common.result.now c.in_ok-near.near.rectangles.items
    c.as_slice-some.result.now c.as_slice-common.ensures.numbers c.as_slice-some.ensures.value
    c.in_ok-near.ensures)
    (within_seen c.args.items.items c.as_slice.result.now c.hull-around.result
    c.as_slice.ensures.value c.hull-around.ensures)
    c.requires
    (subst (λ (is : List Item). Fills c.as_slice-common.result.now c.as_slice-some.result.now is
    c.args.mets.now.items c.fill_each.new.mets.items) c.as_slice-then-depth-eq0.ensures.value
    f))
    c.fill_each.ensures

pub fill-requires : goal.fill-requires
fill-requires t c = (
  omega (arith, c.decreases),
  can_part (length c.args.mets.now.items) (length c.args.mets.now.items) c.args.items.items
      c.in_ok-low.low.items refl (λ i d. (c.in_ok-low.ensures i).1 (inl d)) c.requires,
)

pub fill-requires-2 : goal.fill-requires-2
fill-requires-2 t c = (
  omega (arith, c.decreases),
  can_part (length c.args.mets.now.items) (length c.fill.new.mets.items) c.args.items.items
      c.in_ok-low.high.items (let f = c.in_ok-fill.ensures in f.count)
      (λ i d. (c.in_ok-low.ensures i).1 (inr d)) c.requires,
)

pub returns : goal.returns
returns t c =
    on_ok_weaker c.fill-2.result
    (λ g. Fills-near c.hull-around.result c.args.common.now c.as_slice-common.result.now
    c.args.rectangles.now c.as_slice-some.result.now c.args.items.items c.args.mets.now.items
    c.fill-2.new.mets.items (length c.args.mets.now.items)
    (alike_seen c.hull-around.result c.args.common.now c.args.rectangles.now
    c.in_ok-near.near.common c.as_slice-common.result.now c.in_ok-near.near.rectangles.items
    c.as_slice-some.result.now c.as_slice-common.ensures.numbers c.as_slice-some.ensures.value
    c.in_ok-near.ensures)
    (within_seen c.args.items.items c.as_slice.result.now c.hull-around.result
    c.as_slice.ensures.value c.hull-around.ensures)
    c.requires
    (Fills-then c.as_slice-common.result.now c.as_slice-some.result.now c.in_ok-low.low.items
    c.in_ok-low.high.items c.args.items.items c.args.mets.now.items c.fill.new.mets.items
    c.fill-2.new.mets.items c.in_ok-low.ensures c.in_ok-fill.ensures g))
    c.fill-2.ensures
