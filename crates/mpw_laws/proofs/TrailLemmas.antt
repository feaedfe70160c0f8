-- A step leaves the earlier trail unchanged, and each request comes after those before it.
use Rattle.std.proofs.Common.{◌≡◌, ℕ, Bool, true, false, cond, List, ◌++◌, refl, ap, ◌∙◌}
use Rattle.std.specs.Prelude.{◌&&◌, not}
use Rattle.mpw_requests.specs.declared.request.Request.{Request}
use Rattle.mpw_trail.specs.declared.entry.Entry.{Entry}
use Rattle.mpw_events.specs.declared.event.Event.{Event}
use Rattle.mpw_events.specs.declared.event.Event.TheVariants as event
use Rattle.mpw_events.specs.Step.{State, Outcome, no_change, outcome_of, event_outcome, not_kept_response, settlement, step, response_of, entries_of, after}
use Rattle.mpw_core.proofs.SettlingLemmas.{trail-grows}
use Rattle.mpw_core.proofs.OutcomeLemmas.{holds-request}

trail-request : (s : State) (connection : ℕ) (request : Request)
    → (outcome_of s connection request).state.trail ≡ s.trail
trail-request s connection request =
    holds-request (λ t. t.trail ≡ s.trail) s connection request refl (λ policy. refl)
    (λ asked shelf lines is. refl) (λ asked wafer lines is. refl) (λ change. refl) (λ change. refl)

trail-event_outcome : (s : State) (event : Event) → (event_outcome s event).state.trail ≡ s.trail
unfolding event_outcome
trail-event_outcome s (event.Ask connection request) = trail-request s connection request
trail-event_outcome s (event.Gone connection) = refl
trail-event_outcome s (event.Take worker) = refl
trail-event_outcome s (event.Cut answer) = refl
trail-event_outcome s (event.Tile answer) = refl
trail-event_outcome s event.Restart = refl

trail-settlement : (s : State) (event : Event) (kept : Bool) (outcome : Outcome)
    → outcome.state.trail ≡ s.trail → (settlement s event kept outcome).state.trail ≡ s.trail
trail-settlement s event kept outcome now =
    elim (outcome.changes && not kept) as
    (λ b. (cond b (no_change (not_kept_response event) (record s { closed = true }))
    outcome).state.trail
    ≡ s.trail) [ true ↦ refl | false ↦ now ]

pub trail-step : (s : State) (event : Event) (kept : Bool)
    → (step s event kept).state.trail ≡ s.trail
unfolding step
trail-step s event kept =
    trail-settlement s event kept (event_outcome s event) (trail-event_outcome s event)

pub trail-after : (s : State) (event : Event) (kept : Bool)
    → (after s event kept).trail ≡ s.trail ++ entries_of s.policy (after s event kept).policy event
    (response_of s event kept)
trail-after s event kept =
    let o = step s event kept in
    trail-grows s event o ∙ ap (λ (l : List Entry). l ++ entries_of s.policy o.state.policy event
    o.response) (trail-step s event kept)
