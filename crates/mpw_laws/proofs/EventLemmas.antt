-- The result of an event of the run: it ends the work, or its step is made.
use Rattle.std.proofs.Common.{◌≡◌, ◌∙◌, ◌⊎◌, ℕ, Bool, true, false, List, [], ◌∷◌, ◌++◌, length, refl, sym, ap, subst, inl, inr}
use Rattle.std.specs.Prelude.{◌||◌, ◌&&◌, not, nat_lt, if◌then◌else◌}
use Rattle.std.proofs.lemmas.Bool.{true≢false}
use Rattle.mpw_events.specs.History.{Handled, KeptDesk, IsHandled, state_of, state_after, max_events, limit_response, closed_response, restarts, nothing_added, answering, handling}
use Rattle.mpw_events.specs.Step.{State, Outcome, after, no_change, with_trail, of_run, response_of, settlement, step, not_kept_response, event_outcome}
use Rattle.mpw_events.specs.declared.event.Call.{Call}
use Rattle.mpw_events.specs.declared.event.Event.{Event}
use Rattle.mpw_events.specs.declared.event.Event.TheVariants as event
use Rattle.mpw_events.specs.declared.event.Response.{Response}
use Rattle.mpw_events.specs.declared.event.Response.TheVariants as response
use Rattle.mpw_job.specs.Jobs.{CutWindows, FoundMarkers}
use Rattle.mpw_run.specs.declared.phase.RunReply.TheVariants as told
use Rattle.mpw_run.specs.Laws.{finishes}
use Rattle.mpw_laws.specs.RunLaws.{is_finished}
use Rattle.mpw_run.specs.Step as run
use Rattle.mpw_laws.specs.WorkLaws.{IsOver}
use Rattle.mpw_serve.specs.Working.{ends}

-- ---- the result of an event

state_after-on : (s : State) (first more : List Call)
    → state_after s (first ++ more) ≡ state_after (state_after s first) more
state_after-on s [] more = refl
state_after-on s (c ∷ cs) more = state_after-on (after s c.event c.kept) cs more

-- an event that changes nothing has the same step whether it counts as stored or not
step-normal : (s : State) (e : Event) (kept : Bool)
    → step s e (kept || not (event_outcome s e).changes) ≡ step s e kept
unfolding step
step-normal s e kept = go kept (event_outcome s e).changes
  where
    go : (k b : Bool) → (if b && not (k || not b)
        then no_change (not_kept_response e) (record s { closed = true })
        else event_outcome s e) ≡ (if b && not k
        then no_change (not_kept_response e) (record s { closed = true })
        else event_outcome s e)
    go true true = refl
    go true false = refl
    go false true = refl
    go false false = refl

-- the desk was closed, or its history full, and it is unchanged; or the event's step was made
pub data Came (d : KeptDesk) (e : Event) (r : Response) (d' : KeptDesk) : Type 0 where
  was_closed : (state_of d.desk).closed ≡ true → r ≡ closed_response e → Came d e r d'
  was_full : nat_lt (length d.desk.history) max_events ≡ false → r ≡ limit_response e
      → d'.desk ≡ d.desk
      → Came d e r d'
  stepped : (kept : Bool) → (state_of d.desk).closed ≡ false
      → r ≡ response_of (state_of d.desk) e kept → state_of d'.desk ≡ after (state_of d.desk) e kept
      → Came d e r d'

pub came_of : (d : KeptDesk) (e : Event) (r : Response) (d' : KeptDesk) → restarts e ≡ false
    → IsHandled d e r d' → Came d e r d'
unfolding handling answering
came_of d e r d' runs (kept, came) =
    go (state_of d.desk).closed (restarts e || nat_lt (length d.desk.history) max_events) refl refl
    came.told came.desk
  where
    s : State
    s = state_of d.desk

    out : Bool → Bool → Handled
    out c o = if c then nothing_added (closed_response e) d.desk else if o
        then answering d.desk e kept
        else nothing_added (limit_response e) d.desk

    go : (c o : Bool) → s.closed ≡ c → (restarts e || nat_lt (length d.desk.history) max_events) ≡ o
        → r ≡ (out c o).response → d'.desk ≡ (out c o).desk → Came d e r d'
    go true o ec eo told desk = Came.was_closed ec told
    go false false ec eo told desk = Came.was_full
        (sym (ap (λ b. b || nat_lt (length d.desk.history) max_events) runs) ∙ eo) told desk
    go false true ec eo told desk =
        Came.stepped kept ec told
        (ap state_of desk ∙ state_after-on _ d.desk.history _
        ∙ ap (λ (o : Outcome). with_trail s e o) (step-normal s e kept))

-- ---- events of the run

pub wanted_take : (s : State) (worker : ℕ)
    → event_outcome s (event.Take worker) ≡ of_run s (run.taken s.run)
unfolding event_outcome
wanted_take s worker = refl

pub wanted_cut : (s : State) (a : CutWindows)
    → event_outcome s (event.Cut a) ≡ of_run s (run.cut_answered s.run a)
unfolding event_outcome
wanted_cut s a = refl

pub wanted_tile : (s : State) (a : FoundMarkers)
    → event_outcome s (event.Tile a) ≡ of_run s (run.tile_answered s.run a)
unfolding event_outcome
wanted_tile s a = refl

pub step_by : (s : State) (e : Event) (kept : Bool) (o : Outcome) → event_outcome s e ≡ o
    → (b : Bool)
    → o.changes ≡ b
    → step s e kept ≡ (if b && not kept
    then no_change (not_kept_response e) (record s { closed = true }) else o)
unfolding step
step_by s e kept o is b f = ap (settlement s e kept) is
    ∙ ap (λ (c : Bool). if c && not kept
    then no_change (not_kept_response e) (record s { closed = true }) else o) f

-- the step was made, and the run goes on
pub record Took (d : KeptDesk) (o : run.Outcome) (r : Response) (d' : KeptDesk) : Type 0 where
  pub told : r ≡ response.Run o.reply
  pub run_is : (state_of d'.desk).run ≡ o.run
  pub is_open : (state_of d'.desk).closed ≡ false

full : (d : KeptDesk) (e : Event) (r : Response) (d' : KeptDesk) → limit_response e ≡ response.Ended
    → nat_lt (length d.desk.history) max_events ≡ false → r ≡ limit_response e → d'.desk ≡ d.desk
    → IsOver d' × (r ≡ response.Ended)
full d e r d' over f told desk = (
  IsOver.full
      (subst (λ k. nat_lt (length k.history) max_events ≡ false) (sym desk) f),
  told ∙ over,
)

-- an event that doesn't finish the run
pub came_quiet : (d : KeptDesk) (e : Event) (r : Response) (d' : KeptDesk) (o : run.Outcome)
    → restarts e ≡ false → limit_response e ≡ response.Ended → (state_of d.desk).closed ≡ false
    → event_outcome (state_of d.desk) e ≡ of_run (state_of d.desk) o → finishes o.reply ≡ false
    → IsHandled d e r d' → (IsOver d' × (r ≡ response.Ended)) ⊎ Took d o r d'
came_quiet d e r d' o runs over is_open is f handled = by (came_of d e r d' runs handled)
  where
    by : Came d e r d' → (IsOver d' × (r ≡ response.Ended)) ⊎ Took d o r d'
    by (Came.was_closed c told) = absurd (true≢false (sym c ∙ is_open))
    by (Came.was_full c told desk) = inl (full d e r d' over c told desk)
    by (Came.stepped kept c told now) =
        let q : step (state_of d.desk) e kept ≡ of_run (state_of d.desk) o =
        step_by (state_of d.desk) e kept (of_run (state_of d.desk) o) is false f in
        inr (record {
          told = told ∙ ap (λ (x : Outcome). x.response) q;
          run_is = ap (λ (t : State). t.run) now ∙ ap (λ (x : Outcome). x.state.run) q;
          is_open =
              ap (λ (t : State). t.closed) now ∙ ap (λ (x : Outcome). x.state.closed) q ∙ is_open;
        })

-- an answer that finishes the run
pub came_last : (d : KeptDesk) (a : FoundMarkers) (r : Response) (d' : KeptDesk) (o : run.Outcome)
    → (state_of d.desk).closed ≡ false
    → event_outcome (state_of d.desk) (event.Tile a) ≡ of_run (state_of d.desk) o
    → o.reply ≡ told.Finished
    → is_finished o.run.phase ≡ true → IsHandled d (event.Tile a) r d'
    → IsOver d' × (ends r ≡ true)
came_last d a r d' o is_open is f fin handled = by (came_of d (event.Tile a) r d' refl handled)
  where
    s : State
    s = state_of d.desk

    by : Came d (event.Tile a) r d' → IsOver d' × (ends r ≡ true)
    by (Came.was_closed c told) = absurd (true≢false (sym c ∙ is_open))
    by (Came.was_full c told desk) = let f = full d (event.Tile a) r d' refl c told desk in
        (f.0, ap ends f.1)
    by (Came.stepped true c told now) =
        let q : step s (event.Tile a) true ≡ of_run s o = step_by s (event.Tile a) true (of_run s o)
        is true (ap finishes f) in (
          IsOver.finished (ap (λ (t : State). is_finished t.run.phase) now
              ∙ ap (λ (x : Outcome). is_finished x.state.run.phase) q ∙ fin),
          ap ends (told ∙ ap (λ (x : Outcome). x.response) q) ∙ ap (λ x. ends (response.Run x)) f,
        )
    by (Came.stepped false c told now) =
        let q : step s (event.Tile a) false ≡ no_change response.Ended
        (record s { closed = true }) =
        step_by s (event.Tile a) false (of_run s o) is true (ap finishes f) in (
          IsOver.closed (ap (λ (t : State). t.closed) now ∙ ap (λ (x : Outcome). x.state.closed) q),
          ap ends (told ∙ ap (λ (x : Outcome). x.response) q),
        )
