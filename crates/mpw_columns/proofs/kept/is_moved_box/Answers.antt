-- Answers to the goals of `is_moved_box` in `src/kept.rt`.
use Rattle.std.proofs.Common.{arith}
use Rattle.std.proofs.lemmas.Int.{ints}
use Rattle.mpw_columns.proofs.Solving.{box_moved}
use Rattle.mpw_columns.proofs.kept.is_moved_box.Goals as goal

pub returns-then-is_sum : goal.returns-then-is_sum
returns-then-is_sum c = λ yes.
    let e = c.is_sum.ensures c.if-not-is_sum.false in
    let f = c.is_sum-else-not-is_sum.ensures c.if-not-is_sum-2.false in
    let g = c.is_sum-2.ensures c.if-is_sum.true in
    let h = c.is_sum-then-is_sum.ensures yes in
    box_moved c.args.way c.args.b.now c.args.other.now (omega (arith, ints, e)) (omega (arith, ints, f))
    (omega (arith, ints, g)) (omega (arith, ints, h))
