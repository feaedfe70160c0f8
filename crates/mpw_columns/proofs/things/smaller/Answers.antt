-- Answers to the goals of `smaller` in `src/things.rt`.
use Rattle.std.proofs.Common.{arith}
use Rattle.std.proofs.lemmas.Int.{ints}
use Rattle.mpw_geom.proofs.Boxes.{same_box}
use Rattle.mpw_columns.proofs.things.smaller.Goals as goal

pub returns : goal.returns
returns c =
    let x0 = c.requires.x.bottom in let xs = c.requires.x.ordered in let x1 = c.requires.x.top in
    let y0 = c.requires.y.bottom in let ys = c.requires.y.ordered in let y1 = c.requires.y.top in
    same_box _ _ (omega (arith, ints, x0, xs, x1)) (omega (arith, ints, y0, ys, y1))
    (omega (arith, ints, x0, xs, x1)) (omega (arith, ints, y0, ys, y1))
