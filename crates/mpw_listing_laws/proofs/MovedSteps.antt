-- The answers of a desk at another connection, step by step.
use Rattle.std.proofs.Common.{◌≡◌, ◌∙◌, ℕ, Bool, true, false, ◌&&◌, not, List, [], map, Result, Ok, Err, refl, sym, ap}
use Rattle.std.specs.Prelude.{if◌then◌else◌}
use Rattle.std.proofs.lemmas.Bool.{true≢false}
use Rattle.mpw_layouts.specs.Layouts as layouts
use Rattle.mpw_run.specs.Step.{findings}
use Rattle.mpw_rbac.specs.declared.session.Identity.{Identity}
use Rattle.mpw_wafer.specs.Run.Checking as checking
use Rattle.mpw_signoff.specs.SigningOff as signing
use Rattle.mpw_requests.specs.declared.layouts.LayoutRequest.TheVariants as layout
use Rattle.mpw_requests.specs.declared.request.Request.{Request}
use Rattle.mpw_requests.specs.declared.request.Request.TheVariants as ask
use Rattle.mpw_requests.specs.declared.run.RunRequest.TheVariants as run
use Rattle.mpw_requests.specs.declared.sign_off.SignOffRequest.TheVariants as sign
use Rattle.mpw_requests.specs.Needs.{need_of}
use Rattle.mpw_access.specs.Guard.{entered}
use Rattle.mpw_replies.specs.Listing.{Listed, stored}
use Rattle.mpw_replies.specs.Rows.{changing, listing, needed}
use Rattle.mpw_trail.specs.declared.verdict.Code.TheVariants as code
use Rattle.mpw_replies.specs.declared.reply.Reply.TheVariants as reply
use Rattle.mpw_replies.specs.declared.row.Done.{Done}
use Rattle.mpw_trail.specs.declared.entry.Entry.{Entry}
use Rattle.mpw_replies.specs.declared.row.Ending.{Ending}
use Rattle.mpw_replies.specs.declared.row.Ending.TheVariants as ending
use Rattle.mpw_signoff.specs.declared.ending.SignOffEnding.{SignOffEnding}
use Rattle.mpw_signoff.specs.declared.rows.ByUser.{ByUser}
use Rattle.mpw_signoff.specs.declared.rows.WaiverChange.{WaiverChange}
use Rattle.mpw_signoff.specs.declared.rows.WaiverChange.TheVariants.{Asked, Signed}
use Rattle.mpw_events.specs.declared.event.Event.TheVariants as event
use Rattle.mpw_events.specs.declared.event.Response.TheVariants as response
use Rattle.mpw_events.specs.Step.{State, Outcome, ending_of, guarded, identity_lines, no_change, not_kept_response, outcome_by, over_run, over_shelf, over_waivers, outcome_of, row_outcome, event_outcome, settlement, step, response_of, after}
use Rattle.mpw_secrecy.specs.Questions.{is_of_view}
use Rattle.mpw_listing_laws.proofs.Moving.{moved, entered_moved, whoami_moved, cells_moved, shapes_moved, markers_moved, waive_moved, sign_moved, waivers_moved}

-- ---- outcomes

-- the outcome at the other connection
abbrev moved_outcome : ℕ → ℕ → List Entry → Outcome → Outcome
moved_outcome here there trail o = record {
  response = o.response;
  state = moved here there trail o.state;
  changes = o.changes;
}

abbrev IsMoved : ℕ → ℕ → List Entry → State → Request → Type 0
IsMoved here there trail s request =
    outcome_of (moved here there trail s) here request
    ≡ moved_outcome here there trail (outcome_of s there request)

-- a table that lists the same there
list_moved : {A E P : Type 0} (how : E → Ending) (over other : P → State) (lines : A → List Listed)
    (here there : ℕ) (trail : List Entry) (s : State) (row : Result (Done P) E) (second : Result A E)
    → row ≡ listing lines second
    → outcome_by how over (moved here there trail s) row
    ≡ moved_outcome here there trail (outcome_by how other s (listing lines second))
list_moved {A = A} {E = E} how over other lines here there trail s row second e =
    ap (outcome_by how over (moved here there trail s)) e ∙ go second
  where
    go : (r : Result A E) → outcome_by how over (moved here there trail s) (listing lines r)
        ≡ moved_outcome here there trail (outcome_by how other s (listing lines r))
    go (Ok x) = refl
    go (Err why) = refl

-- a table that changes the waivers in the same way
put_moved : (put : ByUser → WaiverChange) (here there : ℕ) (trail : List Entry) (s : State)
    (row second : Result ByUser SignOffEnding) → row ≡ second
    → outcome_by signing.ending_of (over_waivers (moved here there trail s))
    (moved here there trail s) (changing put (λ by. []) row)
    ≡ moved_outcome here there trail
    (outcome_by signing.ending_of (over_waivers s) s (changing put (λ by. []) second))
put_moved put here there trail s row second e = ap out e ∙ go second
  where
    out : Result ByUser SignOffEnding → Outcome
    out r =
        outcome_by signing.ending_of (over_waivers (moved here there trail s))
        (moved here there trail s) (changing put (λ by. []) r)

    go : (r : Result ByUser SignOffEnding) → out r ≡ moved_outcome here there trail
        (outcome_by signing.ending_of (over_waivers s) s (changing put (λ by. []) r))
    go (Ok by) = refl
    go (Err why) = refl

-- a line for each request that a view decides; the last line is for all others
row_moved : (here there : ℕ) (trail : List Entry) (s : State) (request : Request)
    → is_of_view request ≡ true
    → row_outcome (moved here there trail s) here request
    ≡ moved_outcome here there trail (row_outcome s there request)
row_moved here there trail s ask.Whoami is =
    ap (λ (who : Identity). no_change (response.Told (reply.Ok (map stored (identity_lines who))))
    (moved here there trail s)) (whoami_moved here there s.policy)
row_moved here there trail s (ask.Layout layout.Cells) is =
    ap (λ lines. no_change (response.Told (reply.Ok lines)) (moved here there trail s))
    (cells_moved here there s.policy s.shelf)
row_moved here there trail s (ask.Layout (layout.Shapes cell)) is =
    list_moved layouts.ending_of (over_shelf (moved here there trail s)) (over_shelf s)
    (λ lines. lines) here there trail s _ (layouts.shapes s.policy s.shelf there cell)
    (ap (listing (λ lines. lines)) (shapes_moved here there s.policy s.shelf cell))
row_moved here there trail s (ask.Run run.Status) is = refl
row_moved here there trail s (ask.Run run.Markers) is =
    list_moved ending.Refused (over_run (moved here there trail s)) (over_run s)
    (checking.checked_lines s.policy there) here there trail s _
    (needed code.NotFinished (findings s.run.phase))
    (markers_moved code.NotFinished here there s.policy s.run)
row_moved here there trail s (ask.SignOff (sign.Waive name)) is =
    put_moved Asked here there trail s _ (signing.waive_row s.policy s.run s.waivers there name)
    (waive_moved here there s.policy s.run s.waivers name)
row_moved here there trail s (ask.SignOff (sign.Sign name)) is =
    put_moved Signed here there trail s _ (signing.sign_row s.policy s.run s.waivers there name)
    (sign_moved here there s.policy s.run s.waivers name)
row_moved here there trail s (ask.SignOff sign.Waivers) is =
    list_moved signing.ending_of (over_waivers (moved here there trail s)) (over_waivers s)
    (λ f. map stored (signing.waiver_lines s.policy there f s.waivers)) here there trail s _
    (signing.finished s.run)
    (waivers_moved here there s.policy s.run s.waivers)
row_moved here there trail s request is = absurd (true≢false (sym is))

asked_moved : (here there : ℕ) (trail : List Entry) (s : State) (request : Request)
    → is_of_view request ≡ true → IsMoved here there trail s request
asked_moved here there trail s request is =
    ap (λ met. guarded (moved here there trail s) met
    (row_outcome (moved here there trail s) here request))
    (entered_moved here there s.policy (need_of request))
    ∙ go (entered s.policy there (need_of request))
  where
    go : (met : Result (Unit {0}) Ending)
        → guarded (moved here there trail s) met
        (row_outcome (moved here there trail s) here request)
        ≡ moved_outcome here there trail (guarded s met (row_outcome s there request))
    go (Ok passed) = row_moved here there trail s request is
    go (Err why) = refl

-- ---- the step

settled_moved : (here there : ℕ) (trail : List Entry) (s : State) (request : Request) (kept : Bool)
    (o : Outcome)
    → settlement (moved here there trail s) (event.Ask here request) kept
    (moved_outcome here there trail o)
    ≡ moved_outcome here there trail (settlement s (event.Ask there request) kept o)
settled_moved here there trail s request kept o = by (o.changes && not kept)
  where
    by : (b : Bool)
        → (if b then no_change (not_kept_response (event.Ask here request))
        (record (moved here there trail s) { closed = true })
        else moved_outcome here there trail o)
        ≡ moved_outcome here there trail
        (if b then no_change (not_kept_response (event.Ask there request))
        (record s { closed = true }) else o)
    by true = refl
    by false = refl

step_moved : (here there : ℕ) (trail : List Entry) (s : State) (request : Request) (kept : Bool)
    → is_of_view request ≡ true
    → step (moved here there trail s) (event.Ask here request) kept
    ≡ moved_outcome here there trail (step s (event.Ask there request) kept)
unfolding step event_outcome
step_moved here there trail s request kept is =
    ap (settlement (moved here there trail s) (event.Ask here request) kept)
    (asked_moved here there trail s request is)
    ∙ settled_moved here there trail s request kept (outcome_of s there request)

pub response_moved : (here there : ℕ) (trail : List Entry) (s : State) (request : Request)
    (kept : Bool) → is_of_view request ≡ true
    → response_of (moved here there trail s) (event.Ask here request) kept
    ≡ response_of s (event.Ask there request) kept
response_moved here there trail s request kept is =
    ap (λ (o : Outcome). o.response) (step_moved here there trail s request kept is)

-- except for the trail
pub after_moved : (here there : ℕ) (trail : List Entry) (s : State) (request : Request)
    (kept : Bool) → is_of_view request ≡ true
    → after (moved here there trail s) (event.Ask here request) kept
    ≡ moved here there (after (moved here there trail s) (event.Ask here request) kept).trail
    (after s (event.Ask there request) kept)
after_moved here there trail s request kept is =
    ap (λ (o : Outcome). record o.state
    { trail = (after (moved here there trail s) (event.Ask here request) kept).trail })
    (step_moved here there trail s request kept is)
