-- Answers to the goals of `separate` in `src/across.rt`.
use Rattle.std.proofs.Common.{get_or}
use Rattle.mpw_geom.proofs.Squares.{no_box}
use Rattle.mpw_checks.proofs.Rows.{filled_rows, IsApart-none, IsApart-within, IsApart-across, IsApart-end}
use Rattle.mpw_checks.proofs.across.separate.Goals as goal
use Rattle.mpw_checks.proofs.across.separate.Goals.{then-reaches_across+in_ok-push, else-reaches_across+in_ok-push-2}

pub loop-b-init : goal.loop-b-init
loop-b-init c =
    rw (c.new-within.ensures.items, c.new-across.ensures.items) (IsApart-none c.args.window.now)

pub loop-b-preserved : goal.loop-b-preserved
loop-b-preserved c =
    elim c.if-reaches_across.branch [
      | then-reaches_across+in_ok-push w ↦
          let is = c.reaches_across.ensures w.if-reaches_across.true in
          rw (w.within-is, w.across-is, w.in_ok-push.ensures.items)
          (IsApart-across c.args.window.now c.args.boxes.now c.loop-b.within.items
          c.loop-b.across.items c.loop-b.b-index w.rows.result c.loop-b-test.true
          c.loop-b.invariant
          (record { left = is.0; right = is.1; from = w.rows.ensures.from; to = w.rows.ensures.to })
          (filled_rows (get_or c.args.boxes.now c.loop-b.b-index no_box) w.rows.result
          w.rows.ensures.from w.rows.ensures.to is.2))
      | else-reaches_across+in_ok-push-2 w ↦
          rw (w.within-is, w.across-is, w.in_ok-push-2.ensures.items)
          (IsApart-within c.args.window.now c.args.boxes.now c.loop-b.within.items
          c.loop-b.across.items c.loop-b.b-index c.loop-b-test.true c.loop-b.invariant)
    ]

pub returns-clause-squares : goal.returns-clause-squares
returns-clause-squares c = (IsApart-end c.args.window.now c.args.boxes.now c.loop-b.within.items
    c.loop-b.across.items c.loop-b.b-index c.loop-b-test.false c.loop-b.invariant).squares

pub returns-clause-filled : goal.returns-clause-filled
returns-clause-filled c = c.loop-b.invariant.filled
