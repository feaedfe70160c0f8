-- Answers to the goals of `inner` in `src/things.rt`.
use Rattle.std.proofs.Common.{arith}
use Rattle.std.proofs.lemmas.Int.{ints}
use Rattle.mpw_columns.proofs.Windowed.{shares_smaller, meets_itself}
use Rattle.mpw_columns.proofs.things.inner.Goals as goal

pub returns-then-not-is_span : goal.returns-then-not-is_span
returns-then-not-is_span c = meets_itself c.args.b.now

pub returns-then-not-is_span-3 : goal.returns-then-not-is_span-3
returns-then-not-is_span-3 c = meets_itself c.args.b.now

pub returns : goal.returns
returns c = λ b s h k.
    let u = c.is_span-2.ensures c.if-not-is_span-3.false in
    let v = c.is_span-else-not-is_span-3.ensures c.if-not-is_span-4.false in
    let x = u.ordered in let y = v.ordered in
    shares_smaller b c.args.b.now c.smaller-small.result s c.smaller-small.ensures (omega (arith, ints, x))
    (omega (arith, ints, y)) h k
