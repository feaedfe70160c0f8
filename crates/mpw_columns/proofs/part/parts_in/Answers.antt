-- Answers to the goals of `parts_in` in `src/part.rt`.
use Rattle.std.proofs.Common.{refl}
use Rattle.std.proofs.lemmas.Bool.Decides.{when_false}
use Rattle.mpw_columns.proofs.Parted.{none_parted, one_parted, none_left, all_parted}
use Rattle.mpw_columns.proofs.part.parts_in.Goals as goal
use Rattle.mpw_columns.proofs.part.parts_in.Goals.{then-has_area+in_ok-push, else-has_area}

pub loop-rectangle-init : goal.loop-rectangle-init
loop-rectangle-init c =
    rw c.in_ok-found.ensures.items (none_parted c.args.window.now c.args.rectangles.now)

pub loop-rectangle-preserved : goal.loop-rectangle-preserved
loop-rectangle-preserved c =
    elim c.if-has_area.branch [
      | then-has_area+in_ok-push w ↦
          rw (w.found-is, w.in_ok-push.ensures.items)
          (one_parted c.args.window.now c.args.rectangles.now c.loop-rectangle.rectangle-index _ _
          c.loop-rectangle.found.items c.loop-rectangle-test.true c.loop-rectangle.invariant refl
          c.intersection-area.ensures)
      | else-has_area w ↦
          rw w.found-is (none_left c.args.window.now c.args.rectangles.now
          c.loop-rectangle.rectangle-index _ c.intersection-area.result c.loop-rectangle.found.items
          c.loop-rectangle-test.true c.loop-rectangle.invariant c.intersection-area.ensures
          (when_false _ _ w.if-has_area.false c.has_area.ensures))
    ]

pub returns : goal.returns
returns c = all_parted c.args.window.now c.args.rectangles.now c.loop-rectangle.rectangle-index
    c.loop-rectangle.found.items c.loop-rectangle-test.false c.loop-rectangle.invariant
