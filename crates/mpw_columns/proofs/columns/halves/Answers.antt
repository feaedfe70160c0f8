-- Answers to the goals of `halves` in `src/columns.rt`.
use Rattle.std.proofs.Common.{arith, refl}
use Rattle.std.proofs.lemmas.Int.{ints}
use Rattle.mpw_columns.proofs.columns.halves.Goals as goal

pub returns : goal.returns
returns c =
    let low = c.cut_of-at.ensures.left in
    let high = c.cut_of-at.ensures.right in record {
      left_axis = refl;
      right_axis = refl;
      from_is = omega (arith, ints);
      at = refl;
      to_is = omega (arith, ints);
      some_left = omega (arith, ints, low, high);
      some_right = omega (arith, ints, low, high);
    }
