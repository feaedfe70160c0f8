-- Answers to the goals of `next_number` in `src/masked.rt`.
use Rattle.std.proofs.Common.{arith}
use Rattle.mpw_replies.proofs.MarkerLemmas.{numbered_on, numbered_skip, numbered_over}
use Rattle.mpw_replies.proofs.masked.next_number.Goals as goal

pub returns-then-number-ne0-clause-some : goal.returns-then-number-ne0-clause-some
returns-then-number-ne0-clause-some c =
    numbered_on c.args.numbers.now c.args.rules.now _ c.loop-at.at c.index-rules-place.result
    c.loop-at.invariant c.loop-at-test.true (omega (arith, c.if-number-ne0.true))

pub loop-at-preserved : goal.loop-at-preserved
loop-at-preserved c =
    numbered_skip c.args.numbers.now c.args.rules.now _ c.loop-at.at c.loop-at.invariant
    c.loop-at-test.true (omega (arith, c.if-number-ne0.false))

pub returns-clause-none : goal.returns-clause-none
returns-clause-none c = numbered_over c.args.numbers.now c.args.rules.now _ c.loop-at.at
    c.loop-at.invariant c.loop-at-test.false
