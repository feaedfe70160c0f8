-- Answers to the goals of `marks_from` in `src/met.rt`.
use Rattle.std.proofs.Common.{◌+◌, ◌||◌, ap, get_or}
use Rattle.std.proofs.lemmas.List.{get_or_default}
use Rattle.mpw_replies.specs.Ranks.{is_met_at}
use Rattle.mpw_replies.proofs.RankLemmas.{no_marks, marks_on, marks_all}
use Rattle.mpw_replies.proofs.met.marks_from.Goals as goal

pub loop-number-init : goal.loop-number-init
loop-number-init c i l =
    ap (λ b. b || is_met_at c.args.ranks.now c.args.met.now (c.args.base + i)) (no_marks i l)

pub loop-number-preserved : goal.loop-number-preserved
loop-number-preserved c =
    let k = c.loop-number.number-index in
    let met = c.args.met.now in
    marks_on c.args.ranks.now met c.args.base k (get_or met k 0) c.loop-number.marks _
    c.rank_at.result
    c.loop-number-test.true (get_or_default met k 0 _ c.loop-number-test.true)
    c.rank_at.ensures c.loop-number.invariant c.mark.ensures

pub returns : goal.returns
returns c = marks_all c.args.ranks.now c.args.met.now c.args.base c.loop-number.number-index
    c.loop-number.marks
    c.loop-number-test.false c.loop-number.invariant
