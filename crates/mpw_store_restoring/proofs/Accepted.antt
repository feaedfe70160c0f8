-- A request changes the desk if it is accepted and is no listing.
use Rattle.std.proofs.Common.{◌≡◌, ◌∙◌, ℕ, ◌+◌, Bool, true, false, List, [], ◌∷◌, Result, Ok, Err, refl, sym, ap}
use Rattle.std.specs.Prelude.{◌&&◌}
use Rattle.mpw_access.specs.Guard.{entered}
use Rattle.mpw_layouts.specs.Layouts as layouts
use Rattle.mpw_wafer.specs.Wafers as wafers
use Rattle.mpw_wafer.specs.Run.Checking as checking
use Rattle.mpw_signoff.specs.SigningOff as signing
use Rattle.mpw_replies.specs.Listing.{Listed}
use Rattle.mpw_replies.specs.Rows.{changing, ended_by, listing}
use Rattle.mpw_replies.specs.declared.reply.Line.{Line}
use Rattle.mpw_replies.specs.declared.reply.Line.TheVariants as line
use Rattle.mpw_replies.specs.declared.row.Ending.{Ending}
use Rattle.mpw_replies.specs.declared.row.Ending.TheVariants as ending
use Rattle.mpw_requests.specs.declared.layouts.LayoutRequest.{LayoutRequest}
use Rattle.mpw_requests.specs.declared.layouts.LayoutRequest.TheVariants as layout
use Rattle.mpw_requests.specs.declared.wafer.WaferRequest.{WaferRequest}
use Rattle.mpw_requests.specs.declared.wafer.WaferRequest.TheVariants as wafer
use Rattle.mpw_requests.specs.declared.request.Request.{Request}
use Rattle.mpw_requests.specs.declared.request.Request.TheVariants as ask
use Rattle.mpw_requests.specs.declared.run.RunRequest.{RunRequest}
use Rattle.mpw_requests.specs.declared.run.RunRequest.TheVariants as running
use Rattle.mpw_requests.specs.declared.sign_off.SignOffRequest.{SignOffRequest}
use Rattle.mpw_requests.specs.declared.sign_off.SignOffRequest.TheVariants as sign_off
use Rattle.mpw_requests.specs.Needs.{need_of}
use Rattle.mpw_requests.specs.Parts.{parts_of}
use Rattle.mpw_requests.specs.Table.{lists}
use Rattle.mpw_requests.specs.declared.policy.PolicyRequest.{PolicyRequest}
use Rattle.mpw_requests.specs.declared.policy.PolicyRequest.TheVariants as policy
use Rattle.mpw_events.specs.PolicyRows.{row_of}
use Rattle.mpw_events.specs.declared.event.Event.TheVariants as event
use Rattle.mpw_events.specs.Step.{State, Outcome, ending_of, event_outcome, guarded, outcome_by, row_outcome, over_policy, over_run, over_shelf, over_wafer, over_waivers}
use Rattle.mpw_store_restoring.specs.Internal.Working.{accepts, is_accepted, is_change}

ended : (e : Ending) → false ≡ accepts (ended_by e)
ended (ending.Denied denial) = refl
ended (ending.Refused code) = refl

listing_tells : {A E P : Type 0} (ending : E → Ending) (over : P → State) (s : State)
    (lines : A → List Listed) (row : Result A E)
    → (outcome_by ending over s (listing lines row)).changes ≡ false
listing_tells ending over s lines (Ok x) = refl
listing_tells ending over s lines (Err e) = refl

changing_tells : {A E P : Type 0} (ending : E → Ending) (over : P → State) (s : State)
    (part : A → P) (lines : A → List Line) (row : Result A E)
    → let o = outcome_by ending over s (changing part lines row) in
    o.changes ≡ is_accepted o.response
changing_tells ending over s part lines (Ok x) = refl
changing_tells ending over s part lines (Err e) = ended (ending e)

-- whether it changes something is whether the reply accepts it, if it may change something. Below is a line for
-- each request that may; the last line of a group is for all others, which list
abbrev Tells : Request → Outcome → Type 0
Tells request o = o.changes ≡ (is_change request && is_accepted o.response)

layout_tells : (s : State) (connection : ℕ) (request : LayoutRequest)
    → Tells (ask.Layout request) (row_outcome s connection (ask.Layout request))
unfolding parts_of lists
layout_tells s connection (layout.Submit cell top text) =
    changing_tells layouts.ending_of (over_shelf s) s _ (λ new. line.Version new.version ∷ [])
    (layouts.submit_row s.policy s.shelf connection cell top text)
layout_tells s connection request = search listing_tells

wafer_tells : (s : State) (connection : ℕ) (request : WaferRequest)
    → Tells (ask.Wafer request) (row_outcome s connection (ask.Wafer request))
unfolding parts_of lists
wafer_tells s connection (wafer.Place cell label placing) =
    changing_tells ending.Refused (over_wafer s) s _ _
    (wafers.place_row s.shelf s.wafer.placings cell label placing)
wafer_tells s connection request = search (changing_tells, listing_tells)

run_tells : (s : State) (connection : ℕ) (request : RunRequest)
    → Tells (ask.Run request) (row_outcome s connection (ask.Run request))
unfolding parts_of lists
run_tells s connection running.Run =
    changing_tells ending.Refused (over_run s) s _ (λ planned. line.Run (s.run.number + 1) ∷ [])
    (checking.run_row s.shelf s.wafer s.run)
run_tells s connection running.Cancel =
    changing_tells ending.Refused (over_run s) s _ (λ x. []) (checking.going_on s.run.phase)
run_tells s connection request = search listing_tells

sign_off_tells : (s : State) (connection : ℕ) (request : SignOffRequest)
    → Tells (ask.SignOff request) (row_outcome s connection (ask.SignOff request))
unfolding parts_of lists
sign_off_tells s connection (sign_off.Waive marker) =
    changing_tells signing.ending_of (over_waivers s) s _ (λ by. [])
    (signing.waive_row s.policy s.run s.waivers connection marker)
sign_off_tells s connection (sign_off.Sign marker) =
    changing_tells signing.ending_of (over_waivers s) s _ (λ by. [])
    (signing.sign_row s.policy s.run s.waivers connection marker)
sign_off_tells s connection request = search listing_tells

-- each request of the policy may change it
policy_changes : (request : PolicyRequest) → is_change (ask.Policy request) ≡ true
unfolding parts_of lists
policy_changes policy.Close = refl
policy_changes request = refl

row_tells : (s : State) (connection : ℕ) (request : Request)
    → Tells request (row_outcome s connection request)
unfolding parts_of lists
row_tells s connection (ask.Policy request) =
    changing_tells ending_of (over_policy s) s (λ next. next) (λ next. [])
    (row_of s.policy connection request)
    ∙ ap (λ (may : Bool). may && is_accepted (row_outcome s connection (ask.Policy request)).response)
    (sym (policy_changes request))
row_tells s connection (ask.Layout request) = layout_tells s connection request
row_tells s connection (ask.Wafer request) = wafer_tells s connection request
row_tells s connection (ask.Run request) = run_tells s connection request
row_tells s connection (ask.SignOff request) = sign_off_tells s connection request
row_tells s connection request = search listing_tells

-- what the guard denies is not accepted
denied_tells : (may : Bool) (e : Ending) → false ≡ (may && accepts (ended_by e))
denied_tells true e = ended e
denied_tells false e = refl

pub request_tells : (s : State) (connection : ℕ) (request : Request)
    → let o = event_outcome s (event.Ask connection request) in
    o.changes ≡ (is_change request && is_accepted o.response)
unfolding event_outcome
request_tells s connection request = go (entered s.policy connection (need_of request))
  where
    go : (met : Result (Unit {0}) Ending)
        → Tells request (guarded s met (row_outcome s connection request))
    go (Ok passed) = row_tells s connection request
    go (Err why) = denied_tells (is_change request) why
