-- Answers to the goals of `parts` in `src/halves.rt`.
use Rattle.std.proofs.lemmas.Bool.Decides.{when_false}
use Rattle.mpw_checks.proofs.Parts.{ArePartsOf-none, ArePartsOf-push, ArePartsOf-skip, same_in_window, part_is}
use Rattle.mpw_checks.proofs.halves.parts.Goals as goal
use Rattle.mpw_checks.proofs.halves.parts.Goals.{then-has_area+in_ok-push, else-has_area}

pub loop-b-init : goal.loop-b-init
loop-b-init c = rw c.in_ok-found.ensures.items (ArePartsOf-none c.args.window.now)

pub loop-b-preserved : goal.loop-b-preserved
loop-b-preserved c =
    elim c.if-has_area.branch [
      | then-has_area+in_ok-push w ↦
          rw (w.found-is, w.in_ok-push.ensures.items)
          (ArePartsOf-push c.args.window.now c.args.boxes.now c.loop-b.found.items
          c.loop-b.b-index c.intersection-part.result c.loop-b-test.true c.loop-b.invariant
          (part_is _ c.args.window.now c.intersection-part.result c.intersection-part.ensures))
      | else-has_area w ↦
          rw w.found-is (ArePartsOf-skip c.args.window.now c.args.boxes.now c.loop-b.found.items
          c.loop-b.b-index c.intersection-part.result c.loop-b-test.true c.loop-b.invariant
          (part_is _ c.args.window.now c.intersection-part.result c.intersection-part.ensures)
          (when_false _ _ w.if-has_area.false c.has_area.ensures))
    ]

pub returns : goal.returns
returns c = same_in_window c.args.window.now c.args.boxes.now c.loop-b.found.items c.loop-b.b-index
    c.loop-b-test.false c.loop-b.invariant
