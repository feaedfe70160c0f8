-- Answers to the goals of `ask` in `src/answer.rt`.
use Rattle.std.proofs.Common.{◌≡◌, ◌∙◌, Err, ap, subst, sym}
use Rattle.mpw_access.specs.Guard.{entered}
use Rattle.mpw_requests.specs.Needs.{need_of}
use Rattle.mpw_core.specs.Internal.Answer.{Gives, open_state}
use Rattle.mpw_events.specs.declared.event.Response.TheVariants as response
use Rattle.mpw_events.specs.Step.{State, Outcome, guarded, no_change, outcome_of, row_outcome}
use Rattle.mpw_core.proofs.answer.ask.Goals as goal

pub returns-in-Err : goal.returns-in-Err
returns-in-Err c =
    let state : State = open_state c.args.tables.now in
    let row = row_outcome state c.args.connection c.args.request.now in
    let denied : entered state.policy c.args.connection (need_of c.args.request.now)
    ≡ Err c.in-Err.ending =
    subst (λ need. entered state.policy c.args.connection need ≡ Err c.in-Err.ending)
    c.in_ok-need.ensures (sym c.enter.ensures ∙ c.in-Err.is) in
    let same : outcome_of state c.args.connection c.args.request.now
    ≡ no_change (response.Told c.reply.result) state =
    ap (λ passed. guarded state passed row) denied
    ∙ ap (λ reply. no_change (response.Told reply) state) (sym c.reply.ensures) in
    subst (λ (o : Outcome). Gives state o c.told.result.response c.told.result.next) (sym same)
    (c.told.ensures state)
