-- What holds of a state, whatever its policy and its trail are and whether it is closed, and how steps
-- preserve it.
use Rattle.std.proofs.Common.{◌≡◌, ℕ, Bool, true, false, cond, List, [], ◌∷◌, Result, Ok, Err, refl}
use Rattle.std.specs.Prelude.{◌&&◌, not}
use Rattle.mpw_access.specs.Guard.{entered}
use Rattle.mpw_hier.specs.declared.submission.Submission.{Submission}
use Rattle.mpw_layouts.specs.Layouts as layouts
use Rattle.mpw_placings.specs.declared.wafer.Wafer.{Wafer}
use Rattle.mpw_rbac.specs.Policy.{Policy}
use Rattle.mpw_replies.specs.Listing.{Listed}
use Rattle.mpw_trail.specs.declared.entry.Entry.{Entry}
use Rattle.mpw_replies.specs.declared.row.Done.{Done}
use Rattle.mpw_replies.specs.declared.row.Done.TheVariants.{Lists, Changes}
use Rattle.mpw_replies.specs.declared.row.Ending.{Ending}
use Rattle.mpw_replies.specs.declared.row.Ending.TheVariants.{Refused}
use Rattle.mpw_requests.specs.Needs.{need_of}
use Rattle.mpw_requests.specs.declared.layouts.LayoutRequest.{LayoutRequest}
use Rattle.mpw_requests.specs.declared.wafer.WaferRequest.{WaferRequest}
use Rattle.mpw_requests.specs.declared.request.Request.{Request}
use Rattle.mpw_requests.specs.declared.request.Request.TheVariants as ask
use Rattle.mpw_signoff.specs.SigningOff as signing
use Rattle.mpw_signoff.specs.declared.rows.WaiverChange.{WaiverChange}
use Rattle.mpw_wafer.specs.Run.Checking as checking
use Rattle.mpw_wafer.specs.Wafers as wafers
use Rattle.mpw_events.specs.declared.event.Call.{Call}
use Rattle.mpw_events.specs.declared.event.Event.{Event}
use Rattle.mpw_events.specs.History.{state_after}
use Rattle.mpw_events.specs.Step.{State, Outcome, no_change, ending_of, outcome_by, over_policy, over_shelf, over_wafer, over_run, over_waivers, policy_row, row_outcome, guarded, outcome_of, event_outcome, not_kept_response, settlement, step, trail_behind, after}

-- ---- requests

-- what holds of the state, and with the part that a decision table changes
pub holds-row : {E Q : Type 0} (P : State → Type 0) (ending : E → Ending) (over : Q → State)
    (s : State) (row : Result (Done Q) E) → P s
    → ((part : Q) (lines : List Listed) → row ≡ Ok (Changes part lines) → P (over part))
    → P (outcome_by ending over s row).state
holds-row P ending over s (Ok (Lists lines)) held changed = held
holds-row P ending over s (Ok (Changes part lines)) held changed = changed part lines refl
holds-row P ending over s (Err e) held changed = held

-- what holds of the state, and with the part that each group of requests changes
holds-table : (P : State → Type 0) (s : State) (connection : ℕ) (request : Request) → P s
    → ((policy : Policy) → P (over_policy s policy))
    → ((asked : LayoutRequest) (shelf : List Submission) (lines : List Listed)
    → layouts.row_of s.policy s.shelf connection asked ≡ Ok (Changes shelf lines)
    → P (over_shelf s shelf))
    → ((asked : WaferRequest) (wafer : Wafer) (lines : List Listed)
    → wafers.row_of s.shelf s.wafer asked ≡ Ok (Changes wafer lines) → P (over_wafer s wafer))
    → ((change : checking.RunChange) → P (over_run s change))
    → ((change : WaiverChange) → P (over_waivers s change))
    → P (row_outcome s connection request).state
holds-table P s connection (ask.Policy asked) held policies shelves wafer_changes runs waivers =
    holds-row P ending_of (over_policy s) s (policy_row s.policy connection asked) held
    (λ part lines is. policies part)
holds-table P s connection ask.Whoami held policies shelves wafer_changes runs waivers = held
holds-table P s connection (ask.Layout asked) held policies shelves wafer_changes runs waivers =
    holds-row P layouts.ending_of (over_shelf s) s
    (layouts.row_of s.policy s.shelf connection asked) held (shelves asked)
holds-table P s connection (ask.Wafer asked) held policies shelves wafer_changes runs waivers =
    holds-row P Refused (over_wafer s) s (wafers.row_of s.shelf s.wafer asked) held
    (wafer_changes asked)
holds-table P s connection (ask.Run asked) held policies shelves wafer_changes runs waivers =
    holds-row P Refused (over_run s) s
    (checking.row_of s.policy s.shelf s.wafer s.run connection asked) held
    (λ change lines is. runs change)
holds-table P s connection (ask.SignOff asked) held policies shelves wafer_changes runs waivers =
    holds-row P signing.ending_of (over_waivers s) s
    (signing.row_of s.policy s.wafer s.run s.waivers connection asked) held
    (λ change lines is. waivers change)
holds-table P s connection ask.Trail held policies shelves wafer_changes runs waivers = held

-- what the guard denies leaves the state
pub holds-guarded : (P : State → Type 0) (s : State) (passed : Result (Unit {0}) Ending)
    (outcome : Outcome) → P s → P outcome.state → P (guarded s passed outcome).state
holds-guarded P s (Ok x) outcome held now = now
holds-guarded P s (Err e) outcome held now = held

pub holds-request : (P : State → Type 0) (s : State) (connection : ℕ) (request : Request) → P s
    → ((policy : Policy) → P (over_policy s policy))
    → ((asked : LayoutRequest) (shelf : List Submission) (lines : List Listed)
    → layouts.row_of s.policy s.shelf connection asked ≡ Ok (Changes shelf lines)
    → P (over_shelf s shelf))
    → ((asked : WaferRequest) (wafer : Wafer) (lines : List Listed)
    → wafers.row_of s.shelf s.wafer asked ≡ Ok (Changes wafer lines) → P (over_wafer s wafer))
    → ((change : checking.RunChange) → P (over_run s change))
    → ((change : WaiverChange) → P (over_waivers s change))
    → P (outcome_of s connection request).state
holds-request P s connection request held policies shelves wafer_changes runs waivers =
    holds-guarded P s (entered s.policy connection (need_of request))
    (row_outcome s connection request) held
    (holds-table P s connection request held policies shelves wafer_changes runs waivers)

-- ---- steps

holds-settlement : (P : State → Type 0) → ((s : State) → P s → P (record s { closed = true }))
    → (s : State) (event : Event) (kept : Bool) (outcome : Outcome) → P s → P outcome.state
    → P (settlement s event kept outcome).state
holds-settlement P shut s event kept outcome before now =
    elim (outcome.changes && not kept) as
    (λ b. P (cond b (no_change (not_kept_response event) (record s { closed = true }))
    outcome).state)
    [ true ↦ shut s before | false ↦ now ]

pub holds-step : (P : State → Type 0) → ((s : State) → P s → P (record s { closed = true }))
    → ((s : State) (entries : List Entry) → P s → P (record s { trail = entries }))
    → (s : State) (event : Event) (kept : Bool) → P s → P (event_outcome s event).state
    → P (after s event kept)
unfolding step
holds-step P shut trails s event kept before now =
    trails (step s event kept).state (trail_behind s event (step s event kept))
    (holds-settlement P shut s event kept (event_outcome s event) before now)

pub holds-calls : (P : State → Type 0)
    → ((s : State) (event : Event) (kept : Bool) → P s → P (after s event kept))
    → (s : State) (calls : List Call) → P s → P (state_after s calls)
holds-calls P steps s [] held = held
holds-calls P steps s (call ∷ calls) held =
    holds-calls P steps (after s call.event call.kept) calls
    (steps s call.event call.kept held)
