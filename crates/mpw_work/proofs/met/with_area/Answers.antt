-- Answers to the goals of `with_area` in `src/met.rt`.
use Rattle.mpw_work.proofs.Meeting.{yes_area, no_area, none_yet, one_more, passed_over, all_of}
use Rattle.mpw_work.proofs.met.with_area.Goals as goal
use Rattle.mpw_work.proofs.met.with_area.Goals.{then-has_area+in_ok-push, else-has_area}

pub loop-rectangle-init : goal.loop-rectangle-init
loop-rectangle-init c = rw c.new-found.ensures.items (none_yet c.args.window.now)

pub loop-rectangle-preserved : goal.loop-rectangle-preserved
loop-rectangle-preserved c =
    elim c.if-has_area.branch [
      | then-has_area+in_ok-push w ↦
          rw (w.found-is, w.in_ok-push.ensures.items)
          (one_more c.args.window.now c.loop-rectangle.rectangle-index _
          c.loop-rectangle.found.items c.loop-rectangle-test.true c.loop-rectangle.invariant
          (yes_area c.has_area.result _ w.if-has_area.true c.has_area.ensures))
      | else-has_area w ↦
          rw w.found-is (passed_over c.args.window.now c.loop-rectangle.rectangle-index _
          c.loop-rectangle.found.items c.loop-rectangle-test.true c.loop-rectangle.invariant
          (no_area c.has_area.result _ w.if-has_area.false c.has_area.ensures))
    ]

pub returns-clause-areas : goal.returns-clause-areas
returns-clause-areas c = (all_of c.args.window.now c.loop-rectangle.rectangle-index
    c.loop-rectangle.found.items c.loop-rectangle-test.false c.loop-rectangle.invariant).areas

pub returns-clause-squares : goal.returns-clause-squares
returns-clause-squares c = (all_of c.args.window.now c.loop-rectangle.rectangle-index
    c.loop-rectangle.found.items c.loop-rectangle-test.false c.loop-rectangle.invariant).squares
