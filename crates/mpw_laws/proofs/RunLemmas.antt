-- Which events of the run leave the state unchanged.
use Rattle.std.proofs.Common.{◌≡◌, ℕ, Bool, true, false, Result, Ok, Err, refl, sym, ap, ◌∙◌, true≢false}
use Rattle.mpw_run.specs.declared.phase.RunReply.{RunReply}
use Rattle.mpw_run.specs.declared.phase.RunReply.TheVariants as reply
use Rattle.mpw_run.specs.Step.{Run, Outcome as RunOutcome, taken, cut_answered, kept, tile_answered}
use Rattle.mpw_run.specs.Laws.{finishes}
use Rattle.mpw_laws.specs.RunLaws.{Event as RunEvent, leaves, UnkeptLeavesTheRun}
use Rattle.mpw_laws.specs.RunLaws as law
use Rattle.mpw_replies.specs.declared.row.Done.{Done}
use Rattle.mpw_replies.specs.declared.row.Done.TheVariants.{Lists, Changes}
use Rattle.mpw_replies.specs.declared.row.Ending.{Ending}
use Rattle.mpw_requests.specs.declared.request.Request.{Request}
use Rattle.mpw_core.specs.Answer.{run_response}
use Rattle.mpw_events.specs.declared.event.Event.{Event}
use Rattle.mpw_events.specs.declared.event.Event.TheVariants as event
use Rattle.mpw_events.specs.declared.event.Response.TheVariants as response
use Rattle.mpw_events.specs.Step.{State, Outcome, outcome_by, outcome_of, event_outcome, of_run, step, response_of}
use Rattle.mpw_laws.proofs.AcceptedLemmas.{of_tables}
use Rattle.mpw_laws.proofs.RefusalLemmas.{settlement-run}

-- ---- a result that is not accepted leaves the state unchanged

same-reply : {a b : RunReply} → run_response a ≡ run_response b → a ≡ b
same-reply e = cc

-- a request gets its own kind of reply
row-told : {E P : Type 0} (how : E → Ending) (over : P → State) (s : State)
    (row : Result (Done P) E) (r : RunReply)
    → (outcome_by how over s row).response ≡ run_response r → ⊥
row-told how over s (Ok (Lists lines)) r e = cc
row-told how over s (Ok (Changes part lines)) r e = cc
row-told how over s (Err why) r e = cc

request-told : (s : State) (connection : ℕ) (request : Request) (r : RunReply)
    → (outcome_of s connection request).response ≡ run_response r → ⊥
request-told s connection request r e =
    of_tables (λ o. o.response ≡ run_response r → ⊥) s
    (λ E Q how over row told. row-told how over s row r told) connection request e

-- a result that is not accepted finishes no run
leaving-goes-on : (r : RunReply) → leaves r ≡ true → finishes r ≡ false
leaving-goes-on (reply.Taken job) is = refl
leaving-goes-on reply.NoJob is = refl
leaving-goes-on reply.Kept is = refl
leaving-goes-on reply.Finished is = absurd (true≢false (sym is))
leaving-goes-on reply.Stranger is = refl
leaving-goes-on reply.Double is = refl
leaving-goes-on reply.OldRun is = refl

gone-told : (r : RunReply) → response.Gone ≡ run_response r → ⊥
gone-told r e = cc

restart-told : (r : RunReply) → response.Restarted ≡ run_response r → ⊥
restart-told r e = cc

module _ (unkept_leaves : UnkeptLeavesTheRun) where
  leaves-run : (s : State) (e : RunEvent) (r : RunReply) → leaves r ≡ true → (o : RunOutcome)
      → o ≡ law.step s.run e → run_response o.reply ≡ run_response r → (of_run s o).state ≡ s
  leaves-run s e r is o same told =
      let leaving : leaves (law.step s.run e).reply ≡ true = ap (λ (o : RunOutcome). leaves o.reply)
      (sym same) ∙ ap leaves (same-reply told) ∙ is in
      let unfinished : finishes o.reply ≡ false =
      leaving-goes-on o.reply (ap leaves (same-reply told) ∙ is) in
      rw unfinished (ap (λ (run : Run). record s { run = run }) (ap (λ (o : RunOutcome). o.run) same
      ∙ unkept_leaves s.run e leaving))

  leaves-event_outcome : (s : State) (event : Event) (r : RunReply) → leaves r ≡ true
      → (event_outcome s event).response ≡ run_response r → (event_outcome s event).state ≡ s
  unfolding event_outcome
  leaves-event_outcome s (event.Ask connection request) r is e =
      absurd (request-told s connection request r e)
  leaves-event_outcome s (event.Gone connection) r is e = absurd (gone-told r e)
  leaves-event_outcome s (event.Take worker) r is e = leaves-run s RunEvent.take r is (taken s.run)
      refl e
  leaves-event_outcome s (event.Cut answer) r is e = leaves-run s (RunEvent.cut answer) r is
      (cut_answered s.run answer) refl e
  leaves-event_outcome s (event.Tile answer) r is e = leaves-run s (RunEvent.tile answer) r is
      (tile_answered s.run answer) refl e
  leaves-event_outcome s event.Restart r is e = absurd (restart-told r e)

  pub unkept-leaves : (s : State) (event : Event) (kept : Bool) (r : RunReply) → leaves r ≡ true
      → response_of s event kept ≡ run_response r → (step s event kept).state ≡ s
  unfolding step
  unkept-leaves s event kept r is e =
      let same = settlement-run s event kept (event_outcome s event) r e in
      ap (λ (o : Outcome). o.state) same
      ∙ leaves-event_outcome s event r is (ap (λ (o : Outcome). o.response) (sym same) ∙ e)
