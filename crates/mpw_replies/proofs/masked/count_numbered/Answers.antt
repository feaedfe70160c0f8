-- Answers to the goals of `count_numbered` in `src/masked.rt`.
use Rattle.std.proofs.Common.{arith}
use Rattle.mpw_replies.proofs.MarkerLemmas.{counted_on, counted_skip, counted_over}
use Rattle.mpw_replies.proofs.masked.count_numbered.Goals.{then-numbers-place-ne0, else-numbers-place-ne0}
use Rattle.mpw_replies.proofs.masked.count_numbered.Goals as goal

pub loop-place-preserved : goal.loop-place-preserved
loop-place-preserved c =
    let l = c.loop-place in
    elim c.if-numbers-place-ne0.branch [
      | then-numbers-place-ne0 w ↦
          let more = counted_on c.args.numbers.now c.args.rules.now l.place c.loop-place-test.true
          (omega (arith, w.if-numbers-place-ne0.true)) in
          rw w.count-is (
            omega (arith, l.invariant.0),
            omega (arith, c.loop-place-test.true),
            omega (arith, l.invariant.2, more),
          )
      | else-numbers-place-ne0 w ↦
          let same = counted_skip c.args.numbers.now c.args.rules.now l.place c.loop-place-test.true
          (omega (arith, w.if-numbers-place-ne0.false)) in
          rw w.count-is (
            omega (arith, l.invariant.0),
            omega (arith, c.loop-place-test.true),
            omega (arith, l.invariant.2, same),
          )
    ]

pub returns-clause-count : goal.returns-clause-count
returns-clause-count c =
    omega (
      arith,
      c.loop-place.invariant.2,
      counted_over c.args.numbers.now c.args.rules.now
          c.loop-place.place c.loop-place-test.false,
    )
