-- What holds of a run's phase with its waivers in every state, if each kind of request and event preserves
-- it.
use Rattle.std.proofs.Common.{◌≡◌, ℕ, Bool, true, false, List, [], length, Option, None, Some, Ok}
use Rattle.std.specs.Prelude.{◌==◌, slice_get, slice_set, nat_lt, if◌then◌else◌}
use Rattle.mpw_tiles.specs.Plan.{tiles}
use Rattle.mpw_markers.specs.declared.marker.Marker.{Marker}
use Rattle.mpw_job.specs.Jobs.{CutWindows, FoundMarkers}
use Rattle.mpw_replies.specs.declared.row.Ending.TheVariants as ending
use Rattle.mpw_requests.specs.declared.request.Request.{Request}
use Rattle.mpw_requests.specs.declared.request.Request.TheVariants as ask
use Rattle.mpw_replies.specs.Listing.{Listed}
use Rattle.mpw_replies.specs.declared.row.Done.TheVariants.{Changes}
use Rattle.mpw_wafer.specs.Run.Checking as checking
use Rattle.mpw_run.specs.declared.phase.Checked.{Checked}
use Rattle.mpw_run.specs.declared.phase.Phase.{Phase}
use Rattle.mpw_run.specs.declared.phase.Phase.TheVariants.{Idle, Cutting, Checking, Finished}
use Rattle.mpw_run.specs.Run.{Planned, Tile, Checks, answered}
use Rattle.mpw_run.specs.Same.{same_snapshot, same_tile_job}
use Rattle.mpw_run.specs.Step.{Offer, Outcome as RunOutcome, answered_by, next_from, handed, taken_in, cut_in, kept, restarted_phase, job_of_tile, tile_compared, tile_checked, tile_in}
use Rattle.mpw_requests.specs.declared.sign_off.SignOffRequest.{SignOffRequest}
use Rattle.mpw_signoff.specs.SigningOff as signing
use Rattle.mpw_signoff.specs.declared.rows.WaiverChange.{WaiverChange}
use Rattle.mpw_waiver.specs.declared.waiver.Waiver.{Waiver}
use Rattle.mpw_waiver.specs.Waivers.{none_asked}
use Rattle.mpw_events.specs.declared.event.Call.{Call}
use Rattle.mpw_events.specs.declared.event.Event.{Event}
use Rattle.mpw_events.specs.declared.event.Event.TheVariants as event
use Rattle.mpw_events.specs.History.{state_after}
use Rattle.mpw_events.specs.Step.{State, new_state, of_run, over_run, row_outcome, event_outcome, after}
use Rattle.mpw_core.proofs.OutcomeLemmas.{holds-guarded, holds-row, holds-step, holds-calls}

module _
    (R : Phase → List (Option Waiver) → Type 0)
    (idle : R Idle [])
    (begun : (planned : Planned) → R (Cutting planned) [])
    (cut : (planned : Planned) (c : Checks) (waivers : List (Option Waiver))
    → R (Cutting planned) waivers → R (Checking c) waivers)
    (on : (c c' : Checks) (waivers : List (Option Waiver)) → R (Checking c) waivers
    → R (Checking c') waivers)
    (finished : (f : Checked) → R (Finished f) (none_asked (length f.book)))
    (again : (phase : Phase) (waivers : List (Option Waiver)) → R phase waivers
    → R (restarted_phase phase) waivers)
    (signed_off : (s : State) (connection : ℕ) (request : SignOffRequest) (change : WaiverChange)
    (lines : List Listed)
    → signing.row_of s.policy s.wafer s.run s.waivers connection request ≡ Ok (Changes change lines)
    → R s.run.phase s.waivers → R s.run.phase (signing.waivers_after s.waivers change))
  where
    abbrev Fit : State → Type 0
    Fit s = R s.run.phase s.waivers

    -- ---- requests of the run

    waived-run : (s : State) (change : checking.RunChange) → Fit (over_run s change)
    waived-run s (checking.RunChange.begun planned) = begun planned
    waived-run s checking.RunChange.left_off = idle

    -- ---- the run's own events

    abbrev FitRun : State → RunOutcome → Type 0
    FitRun s o = Fit (of_run s o).state

    one_of : (s : State) (b : Bool) (x y : RunOutcome) → FitRun s x → FitRun s y
        → FitRun s (if b then x else y)
    one_of s true x y f g = f
    one_of s false x y f g = g

    waived-handed : (s : State) (c : Checks) (o : Option Offer) → Fit s → R (Checking c) s.waivers
        → FitRun s (handed s.run c o)
    waived-handed s c None fit none = fit
    waived-handed s c (Some offer) fit none = on c _ s.waivers none

    waived-taken : (s : State) (phase : Phase) → Fit s → R phase s.waivers
        → FitRun s (taken_in s.run phase)
    waived-taken s Idle fit none = fit
    waived-taken s (Cutting planned) fit none = fit
    waived-taken s (Checking c) fit none = waived-handed s c (next_from 0 c.tiles) fit none
    waived-taken s (Finished f) fit same = fit

    waived-cut : (s : State) (answer : CutWindows) (phase : Phase) → Fit s
        → R phase s.waivers → FitRun s (cut_in s.run answer phase)
    waived-cut s answer Idle fit none = fit
    waived-cut s answer (Cutting planned) fit none =
        one_of s (same_snapshot answer.job.snapshot planned.snapshot) _ _
        (cut planned _ s.waivers none) fit
    waived-cut s answer (Checking c) fit none = fit
    waived-cut s answer (Finished f) fit same = fit

    waived-kept : (s : State) (c : Checks) (now : List Tile) → R (Checking c) s.waivers
        → FitRun s (kept s.run c now)
    waived-kept s c now none =
        one_of s (answered now == tiles c.planned.plan) _ _ (finished _) (on c _ s.waivers none)

    waived-compared : (s : State) (c : Checks) (answer : FoundMarkers) (tile : Tile)
        (a : Option (List Marker)) → Fit s → R (Checking c) s.waivers
        → FitRun s (tile_compared s.run c answer tile a)
    waived-compared s c answer tile (Some m) fit none = fit
    waived-compared s c answer tile None fit none =
        one_of s (same_tile_job answer.job (job_of_tile s.run.number c answer.job.tile)) _ _
        (waived-kept s c (slice_set c.tiles answer.job.tile (answered_by answer.markers tile)) none)
        fit

    waived-checked : (s : State) (c : Checks) (answer : FoundMarkers) (tile : Option Tile) → Fit s
        → R (Checking c) s.waivers → FitRun s (tile_checked s.run c answer tile)
    waived-checked s c answer None fit none = fit
    waived-checked s c answer (Some tile) fit none = waived-compared s c answer tile tile.answer fit
        none

    waived-tile : (s : State) (answer : FoundMarkers) (phase : Phase) → Fit s
        → R phase s.waivers → FitRun s (tile_in s.run answer phase)
    waived-tile s answer Idle fit none = fit
    waived-tile s answer (Cutting planned) fit none = fit
    waived-tile s answer (Checking c) fit none =
        waived-checked s c answer (slice_get c.tiles answer.job.tile) fit none
    waived-tile s answer (Finished f) fit same =
        one_of s (nat_lt answer.job.tile (tiles f.planned.plan)) _ _ fit fit

    -- ---- every state

    waived-row : (s : State) (connection : ℕ) (request : Request) → Fit s
        → Fit (row_outcome s connection request).state
    waived-row s connection (ask.Policy request) fit =
        holds-row Fit _ _ s _ fit (λ policy lines is. fit)
    waived-row s connection ask.Whoami fit = fit
    waived-row s connection (ask.Layout request) fit =
        holds-row Fit _ _ s _ fit (λ shelf lines is. fit)
    waived-row s connection (ask.Wafer request) fit =
        holds-row Fit ending.Refused _ s _ fit (λ wafer lines is. fit)
    waived-row s connection (ask.Run request) fit =
        holds-row Fit ending.Refused _ s _ fit (λ change lines is. waived-run s change)
    waived-row s connection (ask.SignOff request) fit =
        holds-row Fit _ _ s _ fit
        (λ change lines is. signed_off s connection request change lines is fit)
    waived-row s connection ask.Trail fit = fit

    waived-event_outcome : (s : State) (event : Event) → Fit s → Fit (event_outcome s event).state
    unfolding event_outcome
    waived-event_outcome s (event.Ask connection request) fit =
        holds-guarded Fit s _ _ fit (waived-row s connection request fit)
    waived-event_outcome s (event.Gone connection) fit = fit
    waived-event_outcome s (event.Take worker) fit = waived-taken s s.run.phase fit fit
    waived-event_outcome s (event.Cut answer) fit = one_of s (s.run.number == answer.job.run) _ _
        (waived-cut s answer s.run.phase fit fit) fit
    waived-event_outcome s (event.Tile answer) fit = one_of s (s.run.number == answer.job.run) _ _
        (waived-tile s answer s.run.phase fit fit) fit
    waived-event_outcome s event.Restart fit = again s.run.phase s.waivers fit

    waived-step : (s : State) (event : Event) (was : Bool) → Fit s → Fit (after s event was)
    waived-step s event was fit =
        holds-step Fit (λ t held. held) (λ t entries held. held) s event was fit
        (waived-event_outcome s event fit)

    pub waived-history : (officer digest : List ℕ) (calls : List Call)
        → Fit (state_after (new_state officer digest) calls)
    unfolding new_state
    waived-history officer digest calls =
        holds-calls Fit waived-step (new_state officer digest) calls idle
