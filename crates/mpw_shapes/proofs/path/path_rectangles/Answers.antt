-- Answers to the goals of `path_rectangles` in `src/path.rt`.
use Rattle.std.proofs.Common.{◌≡◌, ◌∙◌, length, drop, take, ◌-◌, arith}
use Rattle.std.proofs.lemmas.List.{take_all, length-drop}
use Rattle.mpw_shapes.proofs.Laid.{laid_none, laid_more, laid_last, laid_all}
use Rattle.mpw_shapes.proofs.path.path_rectangles.Goals as goal
use Rattle.mpw_shapes.proofs.path.path_rectangles.Goals.{then-rest-eq2+in_ok-push_box-2, else-rest-eq2}

pub loop-rest-init : goal.loop-rest-init
loop-rest-init c =
    rw (c.as_slice-rest.ensures.value ∙ c.in_ok-points.ensures, c.new-boxes.ensures.items)
    (laid_none c.args.path.now _ c.requires c.first_wire-wire.ensures)

pub loop-rest-preserved : goal.loop-rest-preserved
loop-rest-preserved c =
    let rest = c.loop-rest.rest.now in
    let whole : take (length rest - 1) (drop 1 rest) ≡ drop 1 rest =
    take_all (length rest - 1) (drop 1 rest) (omega (arith, length-drop 1 rest)) in
    let m = c.in_ok-push_box.ensures in
    let t = c.loop-rest.invariant in
    rw whole (laid_more c.args.path.now c.loop-rest.wire _ rest _ _ _ t c.requires
    (omega (arith, c.loop-rest-test.true)) c.box_along.ensures c.from_inner-wire.ensures
    m.squares (m.area t.area))

pub returns-clause-squares : goal.returns-clause-squares
returns-clause-squares c =
    let rest = c.loop-rest.rest.now in
    let t = c.loop-rest.invariant in
    elim c.if-rest-eq2.branch [
      | then-rest-eq2+in_ok-push_box-2 w ↦
          λ s. rw w.boxes-is (laid_last c.args.path.now c.loop-rest.wire w.to_end_of-last.result
          rest _ _ _ t (omega (arith, w.if-rest-eq2.true)) w.box_along-then-rest-eq2.ensures
          w.to_end_of-last.ensures w.in_ok-push_box-2.ensures.squares s)
      | else-rest-eq2 w ↦
          λ s. rw w.boxes-is (laid_all c.args.path.now c.loop-rest.wire rest _ t
          (omega (arith, w.if-rest-eq2.false, c.loop-rest-test.false)) s)
    ]
