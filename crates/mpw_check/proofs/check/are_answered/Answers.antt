-- Answers to the goals of `are_answered` in `src/check.rt`.
use Rattle.std.proofs.Common.{List, subst}
use Rattle.std.specs.Prelude.{All}
use Rattle.std.proofs.lemmas.List.{take_all}
use Rattle.std.proofs.lemmas.List.Elements.{All-more}
use Rattle.mpw_job.specs.declared.answer.Answer.{Answer}
use Rattle.mpw_check.specs.Internal.Tiled.{IsAnswered}
use Rattle.mpw_check.proofs.check.are_answered.Goals as goal

pub loop-answer-preserved : goal.loop-answer-preserved
loop-answer-preserved c =
    let i = c.loop-answer.answer-index in
    All-more IsAnswered c.args.answers.now i c.answer-item.result c.loop-answer-test.true
    c.loop-answer.invariant (subst IsAnswered c.answer-item.is c.is_answered.ensures)

pub returns : goal.returns
returns c =
    subst (λ (xs : List Answer). All IsAnswered xs)
    (take_all c.loop-answer.answer-index c.args.answers.now c.loop-answer-test.false)
    c.loop-answer.invariant
