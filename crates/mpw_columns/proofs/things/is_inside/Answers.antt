-- Answers to the goals of `is_inside` in `src/things.rt`.
use Rattle.std.proofs.Common.{arith}
use Rattle.std.proofs.lemmas.Int.{ints}
use Rattle.mpw_columns.proofs.things.is_inside.Goals as goal

pub returns-then-is_at_most : goal.returns-then-is_at_most
returns-then-is_at_most c = λ yes.
    let e = c.is_at_most.ensures c.if-not-is_at_most.false in
    let f = c.is_at_most-else-not-is_at_most.ensures c.if-not-is_at_most-2.false in
    let g = c.is_at_most-2.ensures c.if-is_at_most.true in
    let h = c.is_at_most-then-is_at_most.ensures yes in record {
      left = omega (arith, ints, e);
      right = omega (arith, ints, f);
      bottom = omega (arith, ints, g);
      top = omega (arith, ints, h);
    }
