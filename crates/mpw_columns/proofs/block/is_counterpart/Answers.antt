-- Answers to the goals of `is_counterpart` in `src/block.rt`.
use Rattle.std.proofs.Common.{◌≡◌, ◌-ℤ◌, ℤ, subst, arith}
use Rattle.std.proofs.lemmas.Int.{ints}
use Rattle.mpw_columns.specs.Displaced.{IsDisplaced}
use Rattle.mpw_columns.proofs.block.is_counterpart.Goals as goal

pub returns : goal.returns
returns c = λ yes.
    let same = c.is_same.ensures.0 yes in
    let by : (c.args.other.now.from -ℤ c.args.column.now.from) ≡ (c.args.block.now.from -ℤ c.args.earlier.now.from) =
    omega (arith, ints, same) in
    record {
      part = c.is_part.ensures c.if-not-is_part.false;
      displaced = subst (λ (d : ℤ). IsDisplaced d c.args.column.now c.args.other.now) by
          (c.is_displaced.ensures c.if-not-is_displaced.false);
    }
