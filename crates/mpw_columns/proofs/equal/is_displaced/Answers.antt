-- Answers to the goals of `is_displaced` in `src/equal.rt`.
use Rattle.std.proofs.Common.{sym, arith}
use Rattle.std.proofs.lemmas.Int.{ints}
use Rattle.mpw_columns.proofs.equal.is_displaced.Goals as goal

pub returns : goal.returns
returns c = λ yes.
    let same = c.is_same.ensures.0 yes in
    record {
      axis = sym (c.is_same_axis.ensures.0 c.if-not-is_same_axis.false);
      from = omega (arith, ints);
      to = omega (arith, ints, same);
    }
