-- Answers to the goals of `answer_row` in `src/answer.rt`.
use Rattle.std.proofs.Common.{subst}
use Rattle.mpw_core.proofs.AnswerLemmas.{comes_ended}
use Rattle.mpw_core.proofs.answer.answer_row.Goals as goal
use Rattle.mpw_core.specs.Internal.Answer.{Gives, open_state}
use Rattle.mpw_events.specs.declared.event.Response.TheVariants as response
use Rattle.mpw_events.specs.Step.{State, no_change, over_policy, policy_row}
use Rattle.mpw_replies.specs.declared.reply.Reply.TheVariants as reply

pub returns-in-Policy : goal.returns-in-Policy
returns-in-Policy c =
    let state : State = open_state c.args.tables.now in
    let row = policy_row state.policy c.args.connection c.in-Policy.request in
    rw c.in-Policy.is (c.answered.ensures state _
    (comes_ended (over_policy state) state c.revised.result row c.revised.ensures))

pub returns-in_ok-trail_lines-in-Trail : goal.returns-in_ok-trail_lines-in-Trail
returns-in_ok-trail_lines-in-Trail c =
    let state : State = open_state c.args.tables.now in
    rw c.in-Trail.is (subst (λ lines. Gives state
    (no_change (response.Told (reply.Ok lines)) state) c.told.result.response c.told.result.next)
    c.in_ok-trail_lines-in-Trail.ensures (c.told.ensures state))
