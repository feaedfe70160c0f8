-- Answers to the goals of `parts_near` in `src/search.rt`.
use Rattle.mpw_markers.proofs.search.parts_near.Goals as goal
use Rattle.std.proofs.Common.{refl}
use Rattle.std.proofs.lemmas.Bool.{both_ways}
use Rattle.mpw_markers.proofs.Shared.{near_common, near_some, near_none, near_end, near_same}
use Rattle.mpw_markers.proofs.search.parts_near.Goals.{then-is_within+in_ok-push, else-is_within+then-meets+in_ok-push-2, else-is_within+else-meets}

pub loop-rectangle-preserved : goal.loop-rectangle-preserved
loop-rectangle-preserved c =
    elim c.if-is_within.branch [
      | then-is_within+in_ok-push w ↦
          near_common c.args.hull.now c.args.common.now c.loop-rectangle.found.items
          c.if-is_within.found.items c.args.rectangles.now c.loop-rectangle.rectangle-index
          c.loop-rectangle.some.items c.if-is_within.some.items c.loop-rectangle-test.true
          c.loop-rectangle.invariant (c.is_within.ensures w.if-is_within.true)
          (rw w.found-is w.in_ok-push.ensures.items) (rw w.some-is refl)
      | else-is_within+then-meets+in_ok-push-2 w ↦
          near_some c.args.hull.now c.args.common.now c.loop-rectangle.found.items
          c.if-is_within.found.items c.args.rectangles.now c.loop-rectangle.rectangle-index
          c.loop-rectangle.some.items c.if-is_within.some.items c.loop-rectangle-test.true
          c.loop-rectangle.invariant (rw w.found-is refl)
          (rw w.some-is w.in_ok-push-2.ensures.items)
      | else-is_within+else-meets w ↦
          near_none c.args.hull.now c.args.common.now c.loop-rectangle.found.items
          c.if-is_within.found.items c.args.rectangles.now c.loop-rectangle.rectangle-index
          c.loop-rectangle.some.items c.if-is_within.some.items c.loop-rectangle-test.true
          c.loop-rectangle.invariant (λ s. both_ways w.meets.result w.if-meets.false
          (w.meets.ensures.1 s)) (rw w.found-is refl) (rw w.some-is refl)
    ]

pub returns : goal.returns
returns c =
    near_same c.args.hull.now c.args.common.now c.loop-rectangle.found.items
    c.in_ok-from_vec.field-0 c.args.rectangles.now c.loop-rectangle.some.items
    (near_end c.args.hull.now c.args.common.now c.loop-rectangle.found.items c.args.rectangles.now
    c.loop-rectangle.rectangle-index c.loop-rectangle.some.items c.loop-rectangle-test.false
    c.loop-rectangle.invariant)
    c.in_ok-from_vec.ensures.same
