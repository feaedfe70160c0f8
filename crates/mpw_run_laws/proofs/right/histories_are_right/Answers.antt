-- Answers to the goals of `histories_are_right` in `src/right.rt`.
use Rattle.std.proofs.Common.{List, subst, inl, inr, arith}
use Rattle.std.proofs.lemmas.Bool.{cases_eq}
use Rattle.std.specs.Prelude.{All}
use Rattle.mpw_events.specs.declared.event.Call.{Call}
use Rattle.mpw_events.specs.History.{IsLegal}
use Rattle.mpw_events.specs.Step.{State, new_state}
use Rattle.mpw_run_laws.specs.Right.{IsRight}
use Rattle.mpw_run_laws.proofs.RightLemmas.{right_call, right_history}
use Rattle.mpw_run_laws.proofs.right.histories_are_right.Goals as goal

pub loop-call-preserved : goal.loop-call-preserved
loop-call-preserved c = λ k d l. elim (cases_eq k c.loop-call.call-index) [
  | inl same ↦ right_call c.history-calls.result.now c.loop-call.call-index k d
      c.call-item.result same c.loop-call-test.true c.call-item.is c.hand_in.ensures
  | inr other ↦ c.loop-call.invariant k d (omega (arith, other, l))
]

pub returns : goal.returns
returns c =
    let over = c.loop-call-test.false in
    let first : State = new_state c.args.core.now.officer c.args.core.now.digest in
    let legal : IsLegal first c.args.core.now.history =
    subst (IsLegal first) c.history-calls.ensures.calls c.history-calls.ensures.legal in
    right_history first c.args.core.now.history legal
    (subst (λ (calls : List Call). All (λ (call : Call). IsRight call.event) calls)
    c.history-calls.ensures.calls (λ k d l. c.loop-call.invariant k d (omega (arith, over, l))))
