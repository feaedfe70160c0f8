-- The sign-off requests for a finished run: each with its tests in order, and its result if all pass. The
-- guard was passed before.
use Rattle.std.specs.Prelude.{ℕ, ◌==◌, Bool, false, List, [], ◌∷◌, map, Option, None, Some, Result, Ok, Err, if◌then◌else◌}
use Rattle.mpw_deck.specs.Decks.{Deck}
use Rattle.mpw_placings.specs.declared.placement.Placement.{Placement}
use Rattle.mpw_placings.specs.Placements.{roots_of}
use Rattle.mpw_tiles.specs.Snapshots.{Snapshot}
use Rattle.mpw_rbac.specs.Policy.{Policy}
use Rattle.mpw_rbac.specs.Rows.{user_of}
use Rattle.mpw_requests.specs.declared.sign_off.MarkerName.{MarkerName}
use Rattle.mpw_requests.specs.declared.sign_off.SignOffRequest.{SignOffRequest}
use Rattle.mpw_requests.specs.declared.sign_off.SignOffRequest.TheVariants as ask
use Rattle.mpw_replies.specs.Listing.{stored}
use Rattle.mpw_replies.specs.Rows.{◌>>=◌, changing, listing, needed}
use Rattle.mpw_replies.specs.Sight.{is_full}
use Rattle.mpw_access.specs.Seen.{seen_by}
use Rattle.mpw_replies.specs.declared.reply.Line.{Line}
use Rattle.mpw_replies.specs.declared.reply.Line.TheVariants as line
use Rattle.mpw_trail.specs.declared.verdict.Code.TheVariants as code
use Rattle.mpw_trail.specs.declared.verdict.Denial.TheVariants as denial
use Rattle.mpw_replies.specs.declared.row.Done.{Done}
use Rattle.mpw_replies.specs.declared.row.Ending.{Ending}
use Rattle.mpw_replies.specs.declared.row.Ending.TheVariants as ending
use Rattle.mpw_signoff.specs.declared.ending.SignOffEnding.{SignOffEnding}
use Rattle.mpw_signoff.specs.declared.ending.SignOffEnding.TheVariants.{Refused, Submitter, Asker}
use Rattle.mpw_run.specs.declared.phase.Checked.{Checked}
use Rattle.mpw_run.specs.Same.{same_snapshot}
use Rattle.mpw_run.specs.Step.{Run, findings}
use Rattle.mpw_placings.specs.declared.wafer.Wafer.{Wafer}
use Rattle.mpw_waiver.specs.declared.fault.WaiverFault.{WaiverFault}
use Rattle.mpw_waiver.specs.declared.fault.WaiverFault.TheVariants as fault
use Rattle.mpw_waiver.specs.declared.waiver.Waiver.{Waiver}
use Rattle.mpw_waiver.specs.Signing.{ask_test, sign_test}
use Rattle.mpw_waiver.specs.Waivers.{waiver_at, with_asker, with_signer, unsigned}
use Rattle.mpw_signoff.specs.declared.rows.ByUser.{ByUser}
use Rattle.mpw_signoff.specs.declared.rows.WaiverChange.{WaiverChange}
use Rattle.mpw_signoff.specs.declared.rows.WaiverChange.TheVariants.{Asked, Signed}
use Rattle.mpw_signoff.specs.Named.{Named, named_in}
use Rattle.mpw_signoff.specs.WaiverLines.{lines_from}

-- ---- tests

-- The denial or refusal of a test.
abbrev pub ending_of : SignOffEnding → Ending
ending_of (Refused why) = ending.Refused why
ending_of (Submitter cell) = ending.Denied (denial.Submitter cell)
ending_of Asker = ending.Denied denial.Asker

-- The named marker is in the book, and is full.
abbrev pub if_full : List Bool → Named → Result Named SignOffEnding
if_full seen n = if is_full seen n.marker then Ok n else Err (Refused code.NoMarker)

abbrev pub if_shown : List Bool → Option Named → Result Named SignOffEnding
if_shown seen None = Err (Refused code.NoMarker)
if_shown seen (Some n) = if_full seen n

unfoldable pub full_marker : Policy → ℕ → Checked → MarkerName → Result Named SignOffEnding
full_marker policy connection f name =
    if_shown (seen_by policy connection f.planned.snapshot.shelf)
    (named_in f.planned.snapshot.deck.rules f.book name)

-- The test of a waiver passes.
abbrev pub passes : Result (Unit {0}) WaiverFault → Result (Unit {0}) SignOffEnding
passes (Ok x) = Ok x
passes (Err fault.Known) = Err (Refused code.Known)
passes (Err fault.NoWaiver) = Err (Refused code.NoWaiver)
passes (Err (fault.Submitter cell)) = Err (Submitter cell)
passes (Err fault.Asker) = Err Asker

-- The findings of a finished run.
abbrev pub finished : Run → Result Checked SignOffEnding
finished run = needed (Refused code.NotFinished) (findings run.phase)

-- ---- decision tables

-- The user, with the index of the marker.
abbrev pub by_user : Policy → ℕ → Named → ByUser
by_user policy connection n = record { place = n.place; user = user_of policy connection }

-- The decision table of `waive`: a waiver of the marker may be asked for.
unfoldable pub waive_row : Policy → Run → List (Option Waiver) → ℕ → MarkerName
    → Result ByUser SignOffEnding
waive_row policy run waivers connection name = do
  f ← finished run
  n ← full_marker policy connection f name
  free ← passes (ask_test (waiver_at waivers n.place))
  Ok (by_user policy connection n)

-- The user may sign the waiver of the marker. The tests, in order: it was asked for, it isn't signed, the user
-- submitted nothing that the marker touches, the user isn't who asked.
abbrev pub apart : Checked → List (Option Waiver) → Named → List ℕ
    → Result (Unit {0}) SignOffEnding
apart f waivers n user =
    passes (sign_test f.planned.snapshot.shelf n.marker.met user (waiver_at waivers n.place))

-- The decision table of `sign`: the marker's waiver may be signed by the user.
unfoldable pub sign_row : Policy → Run → List (Option Waiver) → ℕ → MarkerName
    → Result ByUser SignOffEnding
sign_row policy run waivers connection name = do
  f ← finished run
  n ← full_marker policy connection f name
  free ← apart f waivers n (user_of policy connection)
  Ok (by_user policy connection n)

-- The waivers of the full markers.
abbrev pub waiver_lines : Policy → ℕ → Checked → List (Option Waiver) → List Line
waiver_lines policy connection f waivers =
    lines_from f.planned.snapshot.deck.rules (seen_by policy connection f.planned.snapshot.shelf)
    waivers
    0 f.book

-- The deck and the placed submissions are, by value, those that the run checked. Labels of placements don't
-- count, nor what was added to the shelf since.
abbrev pub is_present_with : Option Deck → List Placement → Snapshot → Bool
is_present_with None placings s = false
is_present_with (Some deck) placings s =
    same_snapshot (record { deck = deck; roots = roots_of placings; shelf = s.shelf }) s

abbrev pub is_present : Wafer → Snapshot → Bool
is_present wafer s = is_present_with wafer.deck wafer.placings s

-- The verdict for that many markers without a signed waiver.
abbrev pub open_line : ℕ → Line
open_line number = if number == 0 then line.Clean else line.Open number

-- It is stale if the deck or the placed submissions aren't those of the run.
abbrev pub verdict_line : Bool → ℕ → Line
verdict_line present number = if present then open_line number else line.Stale

-- The verdict of a finished run.
abbrev pub verdict_of : Wafer → List (Option Waiver) → Checked → Line
verdict_of wafer waivers f = verdict_line (is_present wafer f.planned.snapshot) (unsigned waivers)

-- ---- each request

-- The waivers after a request that asks for one or signs one.
abbrev pub waivers_after : List (Option Waiver) → WaiverChange → List (Option Waiver)
waivers_after waivers (Asked by) = with_asker waivers by.place by.user
waivers_after waivers (Signed by) = with_signer waivers by.place by.user

-- The decision table of each request.
abbrev pub row_of : Policy → Wafer → Run → List (Option Waiver) → ℕ → SignOffRequest
    → Result (Done WaiverChange) SignOffEnding
row_of policy wafer run waivers connection (ask.Waive marker) =
    changing Asked (λ by. []) (waive_row policy run waivers connection marker)
row_of policy wafer run waivers connection (ask.Sign marker) =
    changing Signed (λ by. []) (sign_row policy run waivers connection marker)
row_of policy wafer run waivers connection ask.Waivers =
    listing (λ f. map stored (waiver_lines policy connection f waivers)) (finished run)
row_of policy wafer run waivers connection ask.Verdict =
    listing (λ f. stored (verdict_of wafer waivers f) ∷ []) (finished run)
