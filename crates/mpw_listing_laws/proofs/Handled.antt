-- An accepted `markers` of a desk lists the book of a finished run.
use Rattle.std.proofs.Common.{◌≡◌, ◌∙◌, ℕ, Bool, true, false, List, Option, IfOk, refl, sym, ap, subst, arith}
use Rattle.std.specs.Prelude.{nat_lt, length, slice_get, if◌then◌else◌}
use Rattle.std.proofs.lemmas.Int.{ints}
use Rattle.mpw_job.specs.Layout.{AreLayoutMarkers}
use Rattle.mpw_job.proofs.Tests.{get_contains}
use Rattle.mpw_replies.specs.Listing.{Listed}
use Rattle.mpw_replies.specs.Rows.{listing, needed}
use Rattle.mpw_trail.specs.declared.verdict.Code.TheVariants as code
use Rattle.mpw_replies.specs.declared.reply.Reply.TheVariants as reply
use Rattle.mpw_replies.specs.declared.row.Done.{Done}
use Rattle.mpw_replies.specs.declared.row.Ending.TheVariants as ending
use Rattle.mpw_wafer.specs.Run.Checking as checking
use Rattle.mpw_requests.specs.declared.request.Request.{Request}
use Rattle.mpw_requests.specs.declared.request.Request.TheVariants as ask
use Rattle.mpw_requests.specs.declared.run.RunRequest.TheVariants as run
use Rattle.mpw_run.specs.declared.phase.Checked.{Checked}
use Rattle.mpw_run.specs.declared.phase.Phase.{Phase}
use Rattle.mpw_run.specs.declared.phase.Phase.TheVariants.{Idle, Cutting, Checking, Finished}
use Rattle.mpw_run.specs.Step.{findings}
use Rattle.mpw_events.specs.declared.event.Event.{Event}
use Rattle.mpw_events.specs.declared.event.Event.TheVariants as event
use Rattle.mpw_events.specs.declared.event.Response.TheVariants as response
use Rattle.mpw_events.specs.declared.keeper.KeptChange.{KeptChange}
use Rattle.mpw_events.specs.History.{Desk, KeptDesk, Handled, IsHandled, kept_desk, state_of, max_events, closed_response, limit_response, nothing_added, answering, handling}
use Rattle.mpw_events.specs.Step.{State, over_run, response_of}
use Rattle.mpw_laws.specs.Readable.{lines_of}
use Rattle.mpw_laws.proofs.AcceptedLemmas.{accepted}
use Rattle.mpw_laws.proofs.GuardLemmas.{guarded_ok}
use Rattle.mpw_listing_laws.specs.Markers.{Sight, AreTold, sight_of, MarkersAreTold}
use Rattle.mpw_listing_laws.proofs.MarkerLines.{HaveRules, book_told}

-- ---- what a desk that lists was asked in

-- a request that a desk accepts has the answer of the step
pub accepted_by_step : (desk : Desk) (changes : Option (List KeptChange)) (failures connection : ℕ)
    (request : Request) (lines : List Listed) (left : KeptDesk)
    → IsHandled (kept_desk desk changes failures) (event.Ask connection request)
    (response.Told (reply.Ok lines)) left
    → (kept : Bool) × (response_of (state_of desk) (event.Ask connection request) kept
    ≡ response.Told (reply.Ok lines))
unfolding handling answering
accepted_by_step desk changes failures connection request lines left (kept, came) =
    (kept, by (state_of desk).closed (nat_lt (length desk.history) max_events) (sym came.told))
  where
    e : Event
    e = event.Ask connection request

    out : Bool → Bool → Handled
    out c o = if c then nothing_added (closed_response e) desk else if o
        then answering desk e kept
        else nothing_added (limit_response e) desk

    by : (c o : Bool) → (out c o).response ≡ response.Told (reply.Ok lines)
        → response_of (state_of desk) e kept ≡ response.Told (reply.Ok lines)
    by true o told = absurd cc
    by false false told = absurd cc
    by false true told = told

-- ---- the decision table

record ListsBook (s : State) (connection : ℕ) (lines : List Listed) : Type 0 where
  checked : Checked
  finished : s.run.phase ≡ Finished checked
  lines_are : lines ≡ checking.checked_lines s.policy connection checked

markers_list : (s : State) (connection : ℕ)
    → IfOk (checking.row_of s.policy s.shelf s.wafer s.run connection run.Markers)
    (λ done. ListsBook s connection (lines_of done))
markers_list s connection = by s.run.phase refl
  where
    by : (phase : Phase) → s.run.phase ≡ phase
        → IfOk (listing (checking.checked_lines s.policy connection)
        (needed code.NotFinished (findings phase)))
        (λ (done : Done checking.RunChange). ListsBook s connection (lines_of done))
    by Idle is = tt
    by (Cutting planned) is = tt
    by (Checking c) is = tt
    by (Finished f) is = record { checked = f; finished = is; lines_are = refl }

step_lists : (s : State) (connection : ℕ) (kept : Bool) (lines : List Listed)
    → response_of s (event.Ask connection (ask.Run run.Markers)) kept
    ≡ response.Told (reply.Ok lines) → ListsBook s connection lines
step_lists s connection kept lines e =
    accepted ending.Refused (over_run s) s _ (ListsBook s connection) lines
    (markers_list s connection)
    (guarded_ok s connection (ask.Run run.Markers) kept lines e).row

-- ---- the book

layout_rules : (v : Sight) (f : Checked) → AreLayoutMarkers f.planned.snapshot f.book
    → v.rules ≡ f.planned.snapshot.deck.rules → v.book ≡ f.book → HaveRules v
layout_rules v f layout rules book place m at =
    let in_book = get_contains f.book place m (ap (λ b. slice_get b place) (sym book) ∙ at) in
    let run = layout.runs.sound m in_book in
    let own = run.rows m.key.piece.y0 (omega (arith, ints)) run.filled in
    (own.0, ap (λ rs. slice_get rs m.key.rule) rules ∙ own.1)

pub markers_told : (desk : Desk)
    → ((f : Checked) → (state_of desk).run.phase ≡ Finished f
    → AreLayoutMarkers f.planned.snapshot f.book) → MarkersAreTold desk
markers_told desk layout changes failures connection lines left handled =
    let a = accepted_by_step desk changes failures connection (ask.Run run.Markers) lines left
    handled in
    let b = step_lists (state_of desk) connection a.0 lines a.1 in
    let v : Sight = sight_of desk connection b.checked in
    let told = book_told v
    (layout_rules v b.checked (layout b.checked b.finished) refl refl) in
    record {
      checked = b.checked;
      finished = b.finished;
      told = subst (AreTold v) (sym b.lines_are) told;
    }
