-- The placements fit the shelf, in every state.
use Rattle.std.proofs.Common.{◌≡◌, ℕ, Bool, List, [], ◌∷◌, ◌++◌, Ok, subst}
use Rattle.mpw_hier.specs.declared.submission.Submission.{Submission}
use Rattle.mpw_placings.specs.Laws.{NoneArePlacings, LaterShelvesKeep}
use Rattle.mpw_placings.specs.Placements.{ArePlacings}
use Rattle.mpw_requests.specs.declared.layouts.LayoutRequest.{LayoutRequest}
use Rattle.mpw_requests.specs.declared.layouts.LayoutRequest.TheVariants.{Submit}
use Rattle.mpw_requests.specs.declared.request.Request.{Request}
use Rattle.mpw_replies.proofs.RowParts.{changed, listing_changes_nothing}
use Rattle.mpw_replies.specs.Listing.{Listed}
use Rattle.mpw_replies.specs.declared.reply.Line.TheVariants.{Version}
use Rattle.mpw_replies.specs.declared.row.Done.TheVariants.{Changes}
use Rattle.mpw_layouts.specs.Layouts as layouts
use Rattle.mpw_wafer.specs.Laws.{ChangesKeepPlacings}
use Rattle.mpw_events.specs.declared.event.Call.{Call}
use Rattle.mpw_events.specs.declared.event.Event.{Event}
use Rattle.mpw_events.specs.declared.event.Event.TheVariants as event
use Rattle.mpw_events.specs.History.{state_after}
use Rattle.mpw_events.specs.Step.{State, new_state, outcome_of, event_outcome, after}
use Rattle.mpw_core.proofs.OutcomeLemmas.{holds-request, holds-step, holds-calls}

abbrev Placed : State → Type 0
Placed s = ArePlacings s.shelf s.wafer.placings

module _ (none_are : NoneArePlacings) (later_keep : LaterShelvesKeep)
    (changes_keep : ChangesKeepPlacings) where
  -- all requests but `submit` list: they change nothing
  placed-layout : (s : State) (connection : ℕ) (request : LayoutRequest)
      (shelf : List Submission) (lines : List Listed)
      → layouts.row_of s.policy s.shelf connection request ≡ Ok (Changes shelf lines)
      → Placed s → ArePlacings shelf s.wafer.placings
  placed-layout s connection (Submit cell top text) shelf lines is placed =
      let row = layouts.submit_row s.policy s.shelf connection cell top text in
      let new = changed (λ (x : Submission). s.shelf ++ x ∷ [])
      (λ (x : Submission). Version x.version ∷ []) row shelf lines is in
      subst (λ l. ArePlacings l s.wafer.placings) new.2
      (later_keep s.shelf (new.0 ∷ []) s.wafer.placings placed)
  placed-layout s connection request shelf lines is placed =
      absurd (first_of (cc, search listing_changes_nothing))

  placed-request : (s : State) (connection : ℕ) (request : Request) → Placed s
      → Placed (outcome_of s connection request).state
  placed-request s connection request placed =
      holds-request Placed s connection request placed (λ policy. placed)
      (λ asked shelf lines is. placed-layout s connection asked shelf lines is placed)
      (λ asked wafer lines is.
      changes_keep s.shelf s.wafer asked wafer lines placed is)
      (λ change. placed) (λ change. placed)

  placed-event_outcome : (s : State) (event : Event) → Placed s
      → Placed (event_outcome s event).state
  unfolding event_outcome
  placed-event_outcome s (event.Ask connection request) placed = placed-request s connection request
      placed
  placed-event_outcome s (event.Gone connection) placed = placed
  placed-event_outcome s (event.Take worker) placed = placed
  placed-event_outcome s (event.Cut answer) placed = placed
  placed-event_outcome s (event.Tile answer) placed = placed
  placed-event_outcome s event.Restart placed = placed

  placed-step : (s : State) (event : Event) (was : Bool) → Placed s → Placed (after s event was)
  placed-step s event was placed =
      holds-step Placed (λ t held. held) (λ t entries held. held) s event was placed
      (placed-event_outcome s event placed)

  pub placed-history : (officer digest : List ℕ) (calls : List Call)
      → Placed (state_after (new_state officer digest) calls)
  unfolding new_state
  placed-history officer digest calls =
      holds-calls Placed placed-step (new_state officer digest) calls (none_are [])
