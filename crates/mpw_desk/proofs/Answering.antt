-- What an open desk whose history has room answers a request: never that it is closed or full. Each ending of
-- each decision table is a case.
use Rattle.std.proofs.Common.{◌≡◌, ℕ, ◌+◌, Bool, true, false, List, [], ◌∷◌, Option, None, Some, Result, Ok, Err, subst, sym}
use Rattle.std.specs.Prelude.{◌&&◌, not, if◌then◌else◌}
use Rattle.mpw_hier.specs.declared.submission.Submission.{Submission}
use Rattle.mpw_hier.specs.Items.{Item}
use Rattle.mpw_deck.specs.Decks.{Deck}
use Rattle.mpw_deck.specs.Reading.{deck_of}
use Rattle.mpw_deck.specs.declared.deck.DeckFault.{DeckFault}
use Rattle.mpw_tiles.specs.Plan.{Tiling}
use Rattle.mpw_tiles.specs.Snapshots.{Snapshot, shown, plan_for}
use Rattle.mpw_placings.specs.declared.fault.PlacingFault.{PlacingFault}
use Rattle.mpw_placings.specs.declared.fault.PlacingFault.TheVariants as placing_fault
use Rattle.mpw_placings.specs.declared.placement.Placement.{Placement}
use Rattle.mpw_placings.specs.declared.wafer.Wafer.{Wafer}
use Rattle.mpw_placings.specs.Rows as table
use Rattle.mpw_waiver.specs.declared.fault.WaiverFault.{WaiverFault}
use Rattle.mpw_waiver.specs.declared.fault.WaiverFault.TheVariants as waiver_fault
use Rattle.mpw_waiver.specs.declared.waiver.Waiver.{Waiver}
use Rattle.mpw_waiver.specs.Signing.{ask_test, sign_test}
use Rattle.mpw_waiver.specs.Waivers.{waiver_at}
use Rattle.mpw_run.specs.Step.{Run, findings}
use Rattle.mpw_run.specs.declared.phase.Checked.{Checked}
use Rattle.mpw_run.specs.declared.phase.Phase.{Phase}
use Rattle.mpw_run.specs.declared.phase.Phase.TheVariants.{Idle, Cutting, Checking, Finished}
use Rattle.mpw_rbac.specs.Policy.{Policy}
use Rattle.mpw_rbac.specs.Rows as rows
use Rattle.mpw_access.specs.Seen.{seen_by}
use Rattle.mpw_requests.specs.declared.request.Request.{Request}
use Rattle.mpw_requests.specs.declared.request.Request.TheVariants as ask
use Rattle.mpw_requests.specs.declared.run.RunRequest.{RunRequest}
use Rattle.mpw_requests.specs.declared.run.RunRequest.TheVariants as run_ask
use Rattle.mpw_requests.specs.declared.sign_off.MarkerName.{MarkerName}
use Rattle.mpw_requests.specs.declared.sign_off.SignOffRequest.{SignOffRequest}
use Rattle.mpw_requests.specs.declared.sign_off.SignOffRequest.TheVariants as sign_ask
use Rattle.mpw_requests.specs.declared.wafer.WaferRequest.{WaferRequest}
use Rattle.mpw_requests.specs.declared.wafer.WaferRequest.TheVariants as wafer_ask
use Rattle.mpw_requests.specs.Needs.{need_of}
use Rattle.mpw_replies.specs.Rows.{needed}
use Rattle.mpw_replies.specs.Sight.{is_full}
use Rattle.mpw_trail.specs.declared.verdict.Code.TheVariants as code
use Rattle.mpw_replies.specs.declared.reply.Line.TheVariants as line
use Rattle.mpw_replies.specs.declared.row.Ending.TheVariants as ending
use Rattle.mpw_wafer.specs.Run.Checking.{at_rest, cover_test, going_on, planning_over, run_row, snapshot_of}
use Rattle.mpw_wafer.specs.Wafers.{by_table, code_of, deck_row, place_row, unplace_row}
use Rattle.mpw_signoff.specs.declared.ending.SignOffEnding.{SignOffEnding}
use Rattle.mpw_signoff.specs.declared.ending.SignOffEnding.TheVariants.{Refused}
use Rattle.mpw_signoff.specs.SigningOff as signing
use Rattle.mpw_signoff.specs.SigningOff.{apart, finished, full_marker, if_shown, passes, sign_row, waive_row}
use Rattle.mpw_signoff.specs.Named.{Named, named_in}
use Rattle.mpw_events.specs.PolicyRows.{row_of}
use Rattle.mpw_events.specs.declared.event.Event.{Event}
use Rattle.mpw_events.specs.declared.event.Event.TheVariants as event
use Rattle.mpw_events.specs.declared.event.Response.{Response}
use Rattle.mpw_events.specs.Step.{Outcome, State, ending_of, event_outcome, no_change, not_kept_response, outcome_of, over_policy, over_run, over_wafer, over_waivers, response_of, row_outcome, step}
use Rattle.mpw_desk.specs.Steps.{IsAnswer}
use Rattle.mpw_desk.proofs.Endings.{IsTold, EndsBy, EndsFair, IsFairResponse, changing-fair, fair-reply, guarded-fair, listing-fair, row-fair, by_test-fair, needed-fair, policy-fair, layout-fair}

-- ---- the wafer

code-told : (fault : PlacingFault) → IsTold (code_of fault)
code-told placing_fault.NoCell = tt
code-told placing_fault.Known = tt
code-told placing_fault.Extent = tt
code-told placing_fault.Shapes = tt
code-told placing_fault.Full = tt
code-told placing_fault.Unknown = tt
code-told placing_fault.Memory = tt

table-fair : (r : Result (List Placement) PlacingFault) → EndsFair (by_table r)
table-fair (Ok ps) = tt
table-fair (Err fault) = code-told fault

deck-fair : (r : Result Deck DeckFault) → EndsFair (deck_row r)
deck-fair (Ok deck) = tt
deck-fair (Err fault) = tt

wafer-fair : (s : State) (connection : ℕ) (request : WaferRequest)
    → IsFairResponse (row_outcome s connection (ask.Wafer request)).response
wafer-fair s connection (wafer_ask.Place cell label placing) =
    changing-fair ending.Refused (over_wafer s) s _ _
    (place_row s.shelf s.wafer.placings cell label placing)
    (table-fair (table.placings_with s.shelf s.wafer.placings cell label placing))
wafer-fair s connection (wafer_ask.Unplace cell label) =
    changing-fair ending.Refused (over_wafer s) s _ (λ ps. [])
    (unplace_row s.wafer.placings cell label)
    (table-fair (table.placings_without s.wafer.placings cell label))
wafer-fair s connection request = search (changing-fair, listing-fair, deck-fair)

-- ---- the run

rest-fair : (phase : Phase) → EndsFair (at_rest phase)
rest-fair Idle = tt
rest-fair (Cutting planned) = tt
rest-fair (Checking c) = tt
rest-fair (Finished f) = tt

going-fair : (phase : Phase) → EndsFair (going_on phase)
going-fair Idle = tt
going-fair (Cutting planned) = tt
going-fair (Checking c) = tt
going-fair (Finished f) = tt

cover-fair : (snapshot : Snapshot) (plan : Option Tiling) → EndsFair (cover_test snapshot plan)
cover-fair snapshot None = tt
cover-fair snapshot (Some plan) = tt

planning-fair : (snapshot : Snapshot) (items : List Item) → EndsFair (planning_over snapshot items)
planning-fair snapshot [] = tt
planning-fair snapshot (item ∷ items) = cover-fair snapshot (plan_for snapshot)

run_row-fair : (shelf : List Submission) (wafer : Wafer) (run : Run)
    → EndsFair (run_row shelf wafer run)
unfolding run_row
run_row-fair shelf wafer run =
    row-fair ending.Refused (at_rest run.phase) _ (rest-fair run.phase)
    (λ free. row-fair ending.Refused (needed code.NoDeck wafer.deck) _
    (needed-fair ending.Refused code.NoDeck wafer.deck tt)
    (λ deck. planning-fair (snapshot_of deck wafer.placings shelf)
    (shown (snapshot_of deck wafer.placings shelf))))

run-fair : (s : State) (connection : ℕ) (request : RunRequest)
    → IsFairResponse (row_outcome s connection (ask.Run request)).response
run-fair s connection run_ask.Run =
    changing-fair ending.Refused (over_run s) s _ (λ planned. line.Run (s.run.number + 1) ∷ [])
    (run_row s.shelf s.wafer s.run) (run_row-fair s.shelf s.wafer s.run)
run-fair s connection run_ask.Cancel =
    changing-fair ending.Refused (over_run s) s _ (λ x. []) (going_on s.run.phase)
    (going-fair s.run.phase)
run-fair s connection request = search (listing-fair, row-fair, needed-fair)

-- ---- waivers

abbrev WaiverFair : {A : Type 0} → Result A SignOffEnding → Type 0
WaiverFair r = EndsBy signing.ending_of r

shown-fair : (seen : List Bool) (n : Option Named) → WaiverFair (if_shown seen n)
shown-fair seen None = tt
shown-fair seen (Some n) =
    by_test-fair signing.ending_of (is_full seen n.marker) (Refused code.NoMarker) (Ok n) tt tt

full-fair : (policy : Policy) (connection : ℕ) (f : Checked) (name : MarkerName)
    → WaiverFair (full_marker policy connection f name)
unfolding full_marker
full-fair policy connection f name =
    shown-fair (seen_by policy connection f.planned.snapshot.shelf)
    (named_in f.planned.snapshot.deck.rules f.book name)

passes-fair : (r : Result (Unit {0}) WaiverFault) → WaiverFair (passes r)
passes-fair (Ok x) = tt
passes-fair (Err waiver_fault.Known) = tt
passes-fair (Err waiver_fault.NoWaiver) = tt
passes-fair (Err (waiver_fault.Submitter cell)) = tt
passes-fair (Err waiver_fault.Asker) = tt

finished-fair : (run : Run) → WaiverFair (finished run)
finished-fair run =
    needed-fair signing.ending_of (Refused code.NotFinished) (findings run.phase) tt

waive-fair : (policy : Policy) (run : Run) (waivers : List (Option Waiver)) (connection : ℕ)
    (name : MarkerName) → WaiverFair (waive_row policy run waivers connection name)
unfolding waive_row
waive-fair policy run waivers connection name =
    row-fair signing.ending_of (finished run) _ (finished-fair run)
    (λ f. row-fair signing.ending_of (full_marker policy connection f name) _
    (full-fair policy connection f name)
    (λ n. row-fair signing.ending_of (passes (ask_test (waiver_at waivers n.place))) _
    (passes-fair (ask_test (waiver_at waivers n.place))) (λ free. tt)))

sign-fair : (policy : Policy) (run : Run) (waivers : List (Option Waiver)) (connection : ℕ)
    (name : MarkerName) → WaiverFair (sign_row policy run waivers connection name)
unfolding sign_row
sign-fair policy run waivers connection name =
    row-fair signing.ending_of (finished run) _ (finished-fair run)
    (λ f. row-fair signing.ending_of (full_marker policy connection f name) _
    (full-fair policy connection f name)
    (λ n. row-fair signing.ending_of (apart f waivers n (rows.user_of policy connection)) _
    (passes-fair (sign_test f.planned.snapshot.shelf n.marker.met (rows.user_of policy connection)
    (waiver_at waivers n.place))) (λ free. tt)))

sign_off-fair : (s : State) (connection : ℕ) (request : SignOffRequest)
    → IsFairResponse (row_outcome s connection (ask.SignOff request)).response
sign_off-fair s connection (sign_ask.Waive marker) =
    changing-fair signing.ending_of (over_waivers s) s _ (λ by. [])
    (waive_row s.policy s.run s.waivers connection marker)
    (waive-fair s.policy s.run s.waivers connection marker)
sign_off-fair s connection (sign_ask.Sign marker) =
    changing-fair signing.ending_of (over_waivers s) s _ (λ by. [])
    (sign_row s.policy s.run s.waivers connection marker)
    (sign-fair s.policy s.run s.waivers connection marker)
sign_off-fair s connection request = search (listing-fair, row-fair, needed-fair)

-- ---- a request

row_outcome-fair : (s : State) (connection : ℕ) (request : Request)
    → IsFairResponse (row_outcome s connection request).response
row_outcome-fair s connection (ask.Policy request) =
    changing-fair ending_of (over_policy s) s (λ next. next) (λ next. [])
    (row_of s.policy connection request) (policy-fair (row_of s.policy connection request))
row_outcome-fair s connection ask.Whoami = tt
row_outcome-fair s connection (ask.Layout request) = layout-fair s connection request
row_outcome-fair s connection (ask.Wafer request) = wafer-fair s connection request
row_outcome-fair s connection (ask.Run request) = run-fair s connection request
row_outcome-fair s connection (ask.SignOff request) = sign_off-fair s connection request
row_outcome-fair s connection ask.Trail = tt

outcome-fair : (s : State) (connection : ℕ) (request : Request)
    → IsFairResponse (outcome_of s connection request).response
outcome-fair s connection request =
    guarded-fair s connection (need_of request) (row_outcome s connection request)
    (row_outcome-fair s connection request)

settled-fair : (b : Bool) (s : State) (connection : ℕ) (request : Request) (o : Outcome)
    → IsFairResponse o.response
    → IsFairResponse (if b then no_change (not_kept_response (event.Ask connection request)) s
    else o).response
settled-fair true s connection request o fair = tt
settled-fair false s connection request o fair = fair

step-fair : (s : State) (connection : ℕ) (request : Request) (kept : Bool)
    → IsFairResponse (response_of s (event.Ask connection request) kept)
unfolding step event_outcome
step-fair s connection request kept =
    settled-fair ((outcome_of s connection request).changes && not kept)
    (record s { closed = true }) connection request (outcome_of s connection request)
    (outcome-fair s connection request)

is_answer : (s : State) (connection : ℕ) (request : Request) (kept : Bool) (answered : Response)
    → answered ≡ response_of s (event.Ask connection request) kept
    → IsAnswer (event.Ask connection request) answered
is_answer s connection request kept answered is =
    let fair = subst IsFairResponse (sym is) (step-fair s connection request kept) in
    (λ e. subst IsFairResponse e fair, λ e. subst IsFairResponse e fair, fair-reply answered fair)

-- the step's response to an event is an answer
pub step-answers : (s : State) (e : Event) (kept : Bool) (answered : Response)
    → answered ≡ response_of s e kept → IsAnswer e answered
step-answers s (event.Ask connection request) kept answered is =
    is_answer s connection request kept answered is
step-answers s (event.Gone connection) kept answered is = tt
step-answers s (event.Take worker) kept answered is = tt
step-answers s (event.Cut answer) kept answered is = tt
step-answers s (event.Tile answer) kept answered is = tt
step-answers s event.Restart kept answered is = tt
