-- Answers to the goals of `add_rectangle` in `src/shapes.rt`.
use Rattle.std.proofs.lemmas.Bool.Decides.{when_true, when_false}
use Rattle.mpw_firm_picture.proofs.Adding.{adds_missed, adds_pushed}
use Rattle.mpw_firm_picture.proofs.shapes.add_rectangle.Goals as goal

pub returns-in_ok-push : goal.returns-in_ok-push
returns-in_ok-push c = record {
  ok = adds_pushed c.args.window.now c.args.rectangle.now c.intersection-area.result
      c.args.rectangles.now.items _ c.intersection-area.ensures
      (when_true _ _ c.if-has_area.true c.has_area.ensures) c.in_ok-push.ensures.items;
}

pub returns-else-has_area : goal.returns-else-has_area
returns-else-has_area c = record {
  ok = adds_missed c.args.window.now c.args.rectangle.now c.intersection-area.result
      c.args.rectangles.now.items c.intersection-area.ensures
      (when_false _ _ c.if-has_area.false c.has_area.ensures);
}
