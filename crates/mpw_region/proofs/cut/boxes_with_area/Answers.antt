-- Answers to the goals of `boxes_with_area` in `src/cut.rt`.
use Rattle.std.proofs.lemmas.Bool.Decides.{when_true, when_false}
use Rattle.mpw_geom.specs.Plane.{HasArea}
use Rattle.mpw_geom.proofs.Squares.{no_box}
use Rattle.mpw_region.proofs.Active.{HoldsJust-none, HoldsJust-push, HoldsJust-skip, HoldsJust-all}
use Rattle.mpw_region.proofs.cut.boxes_with_area.Goals as goal
use Rattle.mpw_region.proofs.cut.boxes_with_area.Goals.{then-has_area+in_ok-push, else-has_area}

pub loop-b-init : goal.loop-b-init
loop-b-init c = rw c.in_ok-kept.ensures.items (HoldsJust-none HasArea)

pub loop-b-preserved : goal.loop-b-preserved
loop-b-preserved c =
    let i = c.loop-b.b-index in
    elim c.if-has_area.branch [
      | then-has_area+in_ok-push w ↦
          rw (w.kept-is, w.in_ok-push.ensures.items)
          (HoldsJust-push c.args.boxes.now c.loop-b.kept.items HasArea i no_box
          c.loop-b-test.true c.loop-b.invariant
          (when_true _ _ w.if-has_area.true c.has_area.ensures))
      | else-has_area w ↦
          rw w.kept-is (HoldsJust-skip c.args.boxes.now c.loop-b.kept.items HasArea i no_box
          c.loop-b-test.true c.loop-b.invariant
          (when_false _ _ w.if-has_area.false c.has_area.ensures))
    ]

pub returns : goal.returns
returns c = HoldsJust-all c.args.boxes.now c.loop-b.kept.items HasArea c.loop-b.b-index
    c.loop-b-test.false c.loop-b.invariant
