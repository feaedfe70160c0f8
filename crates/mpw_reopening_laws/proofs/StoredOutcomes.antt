-- The outcome of a request in a state that rows lead to: if it changes the state of the desk that stored
-- them, it changes this one in the same way.
use Rattle.std.proofs.Common.{◌≡◌, ℕ, ◌+◌, true, false, List, [], ◌∷◌, Option, Result, Ok, Err, refl, sym, ap, subst}
use Rattle.mpw_rbac.specs.Rows as rows
use Rattle.mpw_access.specs.Guard.{entered}
use Rattle.mpw_layouts.specs.Layouts as layouts
use Rattle.mpw_wafer.specs.Wafers as wafers
use Rattle.mpw_wafer.specs.Run.Checking as checking
use Rattle.mpw_signoff.specs.SigningOff as signing
use Rattle.mpw_signoff.specs.declared.ending.SignOffEnding.TheVariants.{Refused}
use Rattle.mpw_waiver.specs.Signing.{ask_test}
use Rattle.mpw_waiver.specs.Waivers.{waiver_at}
use Rattle.mpw_run.specs.declared.phase.Checked.{Checked}
use Rattle.mpw_run.specs.declared.phase.Phase.{Phase}
use Rattle.mpw_run.specs.declared.phase.Phase.TheVariants.{Idle, Cutting, Checking, Finished}
use Rattle.mpw_run.specs.Step as run
use Rattle.mpw_replies.specs.Listing.{Listed}
use Rattle.mpw_replies.specs.Rows.{◌>>=◌, changing, listing, needed}
use Rattle.mpw_trail.specs.declared.entry.Entry.{Entry as Noted}
use Rattle.mpw_trail.specs.declared.verdict.Code.{Code}
use Rattle.mpw_trail.specs.declared.verdict.Code.TheVariants as code
use Rattle.mpw_replies.specs.declared.reply.Line.{Line}
use Rattle.mpw_replies.specs.declared.reply.Line.TheVariants as line
use Rattle.mpw_replies.specs.declared.row.Done.{Done}
use Rattle.mpw_replies.specs.declared.row.Done.TheVariants.{Lists, Changes}
use Rattle.mpw_replies.specs.declared.row.Ending.{Ending}
use Rattle.mpw_replies.specs.declared.row.Ending.TheVariants as ending
use Rattle.mpw_requests.specs.declared.request.Request.{Request}
use Rattle.mpw_requests.specs.declared.request.Request.TheVariants as ask
use Rattle.mpw_requests.specs.declared.run.RunRequest.{RunRequest}
use Rattle.mpw_requests.specs.declared.run.RunRequest.TheVariants as running
use Rattle.mpw_requests.specs.declared.sign_off.MarkerName.{MarkerName}
use Rattle.mpw_requests.specs.declared.sign_off.SignOffRequest.{SignOffRequest}
use Rattle.mpw_requests.specs.declared.sign_off.SignOffRequest.TheVariants as sign_off
use Rattle.mpw_requests.specs.Needs.{need_of}
use Rattle.mpw_events.specs.Step.{State, Outcome, acceptance, ending_of, guarded, outcome_by, outcome_of, row_outcome, over_policy, over_shelf, over_wafer, over_run, over_waivers, policy_row}
use Rattle.mpw_reopening_laws.specs.Leading.{stored_state}

-- the same response, with the state that rows lead to
abbrev pub stored_outcome : Outcome → List Noted → Outcome
stored_outcome o trail = record {
  response = o.response;
  state = stored_state o.state trail;
  changes = true;
}

-- a request changes nothing, or changes both states in the same way
pub data Same (s : State) (trail : List Noted) (o other : Outcome) : Type 0 where
  stays : o.changes ≡ false → stored_state o.state trail ≡ stored_state s trail
      → Same s trail o other
  moves : o.changes ≡ true → other ≡ stored_outcome o trail → Same s trail o other

-- ---- tests of the run

rest_same : (phase : Phase)
    → checking.at_rest (run.restarted_phase phase) ≡ checking.at_rest phase
rest_same Idle = refl
rest_same (Cutting planned) = refl
rest_same (Checking c) = refl
rest_same (Finished f) = refl

on_same : (phase : Phase)
    → checking.going_on (run.restarted_phase phase) ≡ checking.going_on phase
on_same Idle = refl
on_same (Cutting planned) = refl
on_same (Checking c) = refl
on_same (Finished f) = refl

found_same : (phase : Phase) → run.findings (run.restarted_phase phase) ≡ run.findings phase
found_same Idle = refl
found_same (Cutting planned) = refl
found_same (Checking c) = refl
found_same (Finished f) = refl

run_row_same : (s : State)
    → checking.run_row s.shelf s.wafer (run.restarted s.run)
    ≡ checking.run_row s.shelf s.wafer s.run
unfolding checking.run_row
run_row_same s =
    ap (λ (free : Result (Unit {0}) Code).
    free >>= λ x. needed code.NoDeck s.wafer.deck >>= λ deck.
    checking.planning (checking.snapshot_of deck s.wafer.placings s.shelf))
    (rest_same s.run.phase)

waive_row_same : (s : State) (connection : ℕ) (name : MarkerName)
    → signing.waive_row s.policy (run.restarted s.run) s.waivers connection name
    ≡ signing.waive_row s.policy s.run s.waivers connection name
unfolding signing.waive_row
waive_row_same s connection name =
    ap (λ (found : Option Checked).
    needed (Refused code.NotFinished) found >>= λ f.
    signing.full_marker s.policy connection f name >>= λ n.
    signing.passes (ask_test (waiver_at s.waivers n.place)) >>= λ free.
    Ok (signing.by_user s.policy connection n))
    (found_same s.run.phase)

sign_row_same : (s : State) (connection : ℕ) (name : MarkerName)
    → signing.sign_row s.policy (run.restarted s.run) s.waivers connection name
    ≡ signing.sign_row s.policy s.run s.waivers connection name
unfolding signing.sign_row
sign_row_same s connection name =
    ap (λ (found : Option Checked).
    needed (Refused code.NotFinished) found >>= λ f.
    signing.full_marker s.policy connection f name >>= λ n.
    signing.apart f s.waivers n (rows.user_of s.policy connection) >>= λ free.
    Ok (signing.by_user s.policy connection n))
    (found_same s.run.phase)

-- ---- each decision table

-- a table that lists changes nothing
listing_same : {A E P : Type 0} (s : State) (trail : List Noted) (ending : E → Ending)
    (over : P → State) (lines : A → List Listed) (row : Result A E) (other : Outcome)
    → Same s trail (outcome_by ending over s (listing lines row)) other
listing_same s trail ending over lines (Ok x) other = Same.stays refl refl
listing_same s trail ending over lines (Err e) other = Same.stays refl refl

-- a changed part goes into both states in the same way
row_same : {E P : Type 0} (s : State) (trail : List Noted) (ending : E → Ending)
    (over other : P → State) (row : Result (Done P) E)
    → ((part : P) → other part ≡ stored_state (over part) trail)
    → Same s trail (outcome_by ending over s row)
    (outcome_by ending other (stored_state s trail) row)
row_same s trail ending over other (Ok (Lists lines)) same = Same.stays refl refl
row_same s trail ending over other (Ok (Changes part lines)) same =
    Same.moves refl (ap (acceptance lines) (same part))
row_same s trail ending over other (Err e) same = Same.stays refl refl

-- so does the part of a table that is the same in both states
changing_same : {A E P : Type 0} (s : State) (trail : List Noted) (ending : E → Ending)
    (over other : P → State) (part : A → P) (lines : A → List Line) (row row' : Result A E)
    → row' ≡ row → ((part : P) → other part ≡ stored_state (over part) trail)
    → Same s trail (outcome_by ending over s (changing part lines row))
    (outcome_by ending other (stored_state s trail) (changing part lines row'))
changing_same s trail ending over other part lines row row' is same =
    subst (λ r. Same s trail (outcome_by ending over s (changing part lines row))
    (outcome_by ending other (stored_state s trail) (changing part lines r))) (sym is)
    (row_same s trail ending over other (changing part lines row) same)

over_run_same : (s : State) (trail : List Noted) (change : checking.RunChange)
    → over_run (stored_state s trail) change ≡ stored_state (over_run s change) trail
over_run_same s trail (checking.begun planned) = refl
over_run_same s trail checking.left_off = refl

run_same : (s : State) (trail : List Noted) (connection : ℕ) (request : RunRequest)
    → Same s trail (row_outcome s connection (ask.Run request))
    (row_outcome (stored_state s trail) connection (ask.Run request))
run_same s trail connection running.Run =
    changing_same s trail ending.Refused (over_run s) (over_run (stored_state s trail)) _
    (λ planned. line.Run (s.run.number + 1) ∷ [])
    (checking.run_row s.shelf s.wafer s.run) _ (run_row_same s) (over_run_same s trail)
run_same s trail connection running.Cancel =
    changing_same s trail ending.Refused (over_run s) (over_run (stored_state s trail)) _ (λ x. [])
    (checking.going_on s.run.phase) _ (on_same s.run.phase) (over_run_same s trail)
run_same s trail connection running.Status = Same.stays refl refl
run_same s trail connection running.Markers =
    listing_same s trail ending.Refused (over_run s) _
    (needed code.NotFinished (run.findings s.run.phase)) _

sign_off_same : (s : State) (trail : List Noted) (connection : ℕ) (request : SignOffRequest)
    → Same s trail (row_outcome s connection (ask.SignOff request))
    (row_outcome (stored_state s trail) connection (ask.SignOff request))
sign_off_same s trail connection (sign_off.Waive marker) =
    changing_same s trail signing.ending_of (over_waivers s) (over_waivers (stored_state s trail)) _
    (λ by. []) (signing.waive_row s.policy s.run s.waivers connection marker) _
    (waive_row_same s connection marker) (λ change. refl)
sign_off_same s trail connection (sign_off.Sign marker) =
    changing_same s trail signing.ending_of (over_waivers s) (over_waivers (stored_state s trail)) _
    (λ by. []) (signing.sign_row s.policy s.run s.waivers connection marker) _
    (sign_row_same s connection marker) (λ change. refl)
sign_off_same s trail connection sign_off.Waivers =
    listing_same s trail signing.ending_of (over_waivers s) _ (signing.finished s.run) _
sign_off_same s trail connection sign_off.Verdict =
    listing_same s trail signing.ending_of (over_waivers s) _ (signing.finished s.run) _

outcome_same : (s : State) (trail : List Noted) (connection : ℕ) (request : Request)
    → Same s trail (row_outcome s connection request)
    (row_outcome (stored_state s trail) connection request)
outcome_same s trail connection (ask.Policy request) =
    row_same s trail ending_of (over_policy s) (over_policy (stored_state s trail))
    (policy_row s.policy connection request) (λ part. refl)
outcome_same s trail connection ask.Whoami = Same.stays refl refl
outcome_same s trail connection (ask.Layout request) =
    row_same s trail layouts.ending_of (over_shelf s) (over_shelf (stored_state s trail))
    (layouts.row_of s.policy s.shelf connection request) (λ part. refl)
outcome_same s trail connection (ask.Wafer request) =
    row_same s trail ending.Refused (over_wafer s) (over_wafer (stored_state s trail))
    (wafers.row_of s.shelf s.wafer request) (λ part. refl)
outcome_same s trail connection (ask.Run request) = run_same s trail connection request
outcome_same s trail connection (ask.SignOff request) = sign_off_same s trail connection request
outcome_same s trail connection ask.Trail = Same.stays refl refl

-- the guard looks at the policy alone, which both states have
pub request_same : (s : State) (trail : List Noted) (connection : ℕ) (request : Request)
    → Same s trail (outcome_of s connection request)
    (outcome_of (stored_state s trail) connection request)
request_same s trail connection request = go (entered s.policy connection (need_of request))
  where
    go : (met : Result (Unit {0}) Ending)
        → Same s trail (guarded s met (row_outcome s connection request))
        (guarded (stored_state s trail) met
        (row_outcome (stored_state s trail) connection request))
    go (Ok passed) = outcome_same s trail connection request
    go (Err why) = Same.stays refl refl
