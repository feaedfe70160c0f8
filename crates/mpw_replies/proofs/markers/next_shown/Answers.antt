-- Answers to the goals of `next_shown` in `src/markers.rt`.
use Rattle.std.proofs.Common.{◌∙◌}
use Rattle.mpw_replies.proofs.MarkerLemmas.{shown_on, shown_over}
use Rattle.mpw_replies.proofs.markers.next_shown.Goals as goal

pub returns-in-Some-clause-some : goal.returns-in-Some-clause-some
returns-in-Some-clause-some c names =
    c.loop-at.invariant names
    ∙ shown_on names c.args.rules.now c.args.seen.now c.args.book.now c.loop-at.at
    c.index-book-at.result _
    c.loop-at-test.true c.index-book-at.is (c.in-Some.ensures names)

pub loop-at-preserved : goal.loop-at-preserved
loop-at-preserved c names =
    c.loop-at.invariant names
    ∙ shown_on names c.args.rules.now c.args.seen.now c.args.book.now c.loop-at.at
    c.index-book-at.result _
    c.loop-at-test.true c.index-book-at.is (c.in_default.ensures names)

pub returns-clause-none : goal.returns-clause-none
returns-clause-none c names =
    c.loop-at.invariant names ∙ shown_over names c.args.rules.now c.args.seen.now c.args.book.now
    c.loop-at.at c.loop-at-test.false
