-- Answers to the goals of `areas_of` in `src/leaf.rt`.
use Rattle.mpw_job.proofs.Areas.{none_yet, one_more, passed_over, all_of}
use Rattle.std.proofs.Common.{◌∙◌, sym}
use Rattle.mpw_columns.proofs.leaf.areas_of.Goals as goal
use Rattle.mpw_columns.proofs.leaf.areas_of.Goals.{then-same_layer+in_ok-push, else-same_layer}

pub loop-rectangle-init : goal.loop-rectangle-init
loop-rectangle-init c = rw c.new-areas.ensures.items (none_yet c.args.rectangles.now c.args.layer)

pub loop-rectangle-preserved : goal.loop-rectangle-preserved
loop-rectangle-preserved c =
    elim c.if-same_layer.branch [
      | then-same_layer+in_ok-push w ↦
          rw (w.areas-is, w.in_ok-push.ensures.items)
          (one_more c.args.rectangles.now c.args.layer c.loop-rectangle.rectangle-index _
          c.loop-rectangle.areas.items c.loop-rectangle-test.true c.loop-rectangle.invariant
          (sym c.same_layer.ensures ∙ w.if-same_layer.true))
      | else-same_layer w ↦
          rw w.areas-is (passed_over c.args.rectangles.now c.args.layer
          c.loop-rectangle.rectangle-index _ c.loop-rectangle.areas.items
          c.loop-rectangle-test.true c.loop-rectangle.invariant (sym c.same_layer.ensures
          ∙ w.if-same_layer.false))
    ]

pub returns : goal.returns
returns c = all_of c.args.rectangles.now c.args.layer c.loop-rectangle.rectangle-index
    c.loop-rectangle.areas.items c.loop-rectangle-test.false c.loop-rectangle.invariant
