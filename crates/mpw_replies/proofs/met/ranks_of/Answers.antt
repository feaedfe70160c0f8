-- Answers to the goals of `ranks_of` in `src/met.rt`.
use Rattle.mpw_replies.proofs.RankLemmas.{ranks_on}
use Rattle.mpw_replies.proofs.met.ranks_of.Goals as goal

pub loop-submission-preserved : goal.loop-submission-preserved
loop-submission-preserved c =
    ranks_on c.args.cells.now c.args.submissions.now c.loop-submission.submission-index
    c.submission-item.result
    c.loop-submission.ranks.items _ c.rank_of.result c.loop-submission-test.true
    c.submission-item.is c.loop-submission.invariant.1 c.in_ok-push.ensures.items
    c.loop-submission.invariant.0 c.rank_of.ensures
