-- The result of an event that is no restart: the desk is unchanged, or the step was made.
use Rattle.std.proofs.Common.{◌≡◌, ◌∙◌, Bool, true, false, List, [], ◌∷◌, ◌++◌, length, length-append, nat_lt, refl, sym, ap, arith}
use Rattle.std.specs.Prelude.{◌||◌, ◌&&◌, not, if◌then◌else◌}
use Rattle.mpw_events.specs.declared.event.Call.{Call}
use Rattle.mpw_events.specs.declared.event.Event.{Event}
use Rattle.mpw_events.specs.declared.event.Response.{Response}
use Rattle.mpw_events.specs.History.{Desk, Handled, KeptDesk, IsHandled, answering, closed_response, handling, limit_response, max_events, nothing_added, restarts, state_after, state_of, with_call}
use Rattle.mpw_events.specs.Step.{Outcome, State, after, event_outcome, no_change, not_kept_response, response_of, step, with_trail}
use Rattle.mpw_desk.specs.Steps.{IsAnswer, call_of}
use Rattle.mpw_desk.proofs.Answering.{step-answers}

pub state_after-on : (s : State) (first more : List Call)
    → state_after s (first ++ more) ≡ state_after (state_after s first) more
state_after-on s [] more = refl
state_after-on s (c ∷ cs) more = state_after-on (after s c.event c.kept) cs more

-- an event that changes nothing has the same step whether it counts as stored or not
pub step-normal : (s : State) (e : Event) (kept : Bool)
    → step s e (kept || not (event_outcome s e).changes) ≡ step s e kept
unfolding step
step-normal s e kept = go kept (event_outcome s e).changes
  where
    go : (k b : Bool) → (if b && not (k || not b)
        then no_change (not_kept_response e) (record s { closed = true })
        else event_outcome s e) ≡ (if b && not k
        then no_change (not_kept_response e) (record s { closed = true })
        else event_outcome s e)
    go true true = refl
    go true false = refl
    go false true = refl
    go false false = refl

-- the desk is unchanged, and the response is that it is closed or full; or the step was made
pub data Came (d : Desk) (e : Event) (r : Response) (d' : Desk) : Type 0 where
  was_closed : d' ≡ d → r ≡ closed_response e → Came d e r d'
  was_full : d' ≡ d → r ≡ limit_response e → Came d e r d'
  stepped : (kept : Bool) → r ≡ response_of (state_of d) e kept
      → state_of d' ≡ after (state_of d) e kept
      → Came d e r d'

pub came_of : (d d' : KeptDesk) (e : Event) (r : Response) → IsHandled d e r d'
    → Came d.desk e r d'.desk
unfolding handling answering
came_of d d' e r is =
    go (state_of d.desk).closed (restarts e || nat_lt (length d.desk.history) max_events)
    is.1.told is.1.desk
  where
    s : State
    s = state_of d.desk

    out : Bool → Bool → Handled
    out c o = if c then nothing_added (closed_response e) d.desk else if o
        then answering d.desk e is.0
        else nothing_added (limit_response e) d.desk

    go : (c o : Bool) → r ≡ (out c o).response → d'.desk ≡ (out c o).desk
        → Came d.desk e r d'.desk
    go true o told desk = Came.was_closed desk told
    go false false told desk = Came.was_full desk told
    go false true told desk =
        Came.stepped is.0 told
        (ap state_of desk ∙ state_after-on _ d.desk.history _
        ∙ ap (λ (o : Outcome). with_trail s e o) (step-normal s e is.0))

-- a desk with one more call is another desk
pub longer : (d : Desk) (e : Event) (kept : Bool) (r : Response) → with_call d e kept r ≡ d → ⊥
longer d e kept r is =
    omega (
      arith,
      ap (λ (x : Desk). length x.history) is,
      length-append d.history (call_of e r kept ∷ []),
    )

-- the response of a call that was added is an answer
pub added-answers : (d d' : KeptDesk) (e : Event) (r : Response) (was : Bool) → IsHandled d e r d'
    → d'.desk ≡ with_call d.desk e was r → IsAnswer e r
added-answers d d' e r was is added = by (came_of d d' e r is)
  where
    by : Came d.desk e r d'.desk → IsAnswer e r
    by (Came.was_closed same told) = absurd (longer d.desk e was r (sym added ∙ same))
    by (Came.was_full same told) = absurd (longer d.desk e was r (sym added ∙ same))
    by (Came.stepped kept told behind) = step-answers (state_of d.desk) e kept r told
