-- Answers to the goals of `answer` in `src/search.rt`.
use Rattle.mpw_markers.proofs.search.answer.Goals as goal
use Rattle.mpw_markers.proofs.Shared.{collects_met, collects_passed, collects_end, answered}
use Rattle.std.proofs.Common.{refl}
use Rattle.std.proofs.lemmas.Bool.Decides.{when_true, when_false}
use Rattle.mpw_markers.proofs.search.answer.Goals.{then-is_needed+in_ok-push, else-is_needed}

pub loop-rectangle-preserved : goal.loop-rectangle-preserved
loop-rectangle-preserved c =
    elim c.if-is_needed.branch [
      | then-is_needed+in_ok-push w ↦
          collects_met c.args.common.now c.args.rectangles.now c.loop-rectangle.rectangle-index
          c.args.b.now c.loop-rectangle.numbers.items c.if-is_needed.numbers.items
          c.loop-rectangle-test.true c.loop-rectangle.invariant
          (when_true _ _ w.if-is_needed.true c.is_needed.ensures)
          (rw w.numbers-is w.in_ok-push.ensures.items)
      | else-is_needed w ↦
          collects_passed c.args.common.now c.args.rectangles.now c.loop-rectangle.rectangle-index
          c.args.b.now c.loop-rectangle.numbers.items c.as_slice.result.now
          c.if-is_needed.numbers.items c.loop-rectangle-test.true c.loop-rectangle.invariant
          c.as_slice.ensures.value (when_false _ _ w.if-is_needed.false c.is_needed.ensures)
          (rw w.numbers-is refl)
    ]

pub returns : goal.returns
returns c =
    answered c.args.common.now c.args.rectangles.now c.args.b.now c.loop-rectangle.numbers.items
    c.from_vec.result
    (collects_end c.args.common.now c.args.rectangles.now c.loop-rectangle.rectangle-index
    c.args.b.now c.loop-rectangle.numbers.items c.loop-rectangle-test.false
    c.loop-rectangle.invariant)
    c.from_vec.ensures.ascending c.from_vec.ensures.same
