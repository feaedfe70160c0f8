-- The requests of the checking run: each with its tests in order, and its result if all pass. The guard was
-- passed before.
use Rattle.std.specs.Prelude.{ℕ, ◌+◌, List, [], ◌∷◌, Option, None, Some, Result, Ok, Err}
use Rattle.mpw_deck.specs.Decks.{Deck}
use Rattle.mpw_hier.specs.declared.submission.Submission.{Submission}
use Rattle.mpw_hier.specs.Items.{Item}
use Rattle.mpw_placings.specs.declared.placement.Placement.{Placement}
use Rattle.mpw_placings.specs.Placements.{roots_of}
use Rattle.mpw_tiles.specs.Plan.{Tiling, tiles}
use Rattle.mpw_tiles.specs.Snapshots.{Snapshot, shown, plan_for}
use Rattle.mpw_rbac.specs.Policy.{Policy}
use Rattle.mpw_requests.specs.declared.run.RunRequest.{RunRequest}
use Rattle.mpw_requests.specs.declared.run.RunRequest.TheVariants as ask
use Rattle.mpw_replies.specs.Listing.{Listed, stored}
use Rattle.mpw_replies.specs.Rows.{◌>>=◌, changing, listing, needed}
use Rattle.mpw_replies.specs.Sight.{book_lines}
use Rattle.mpw_access.specs.Seen.{seen_by}
use Rattle.mpw_replies.specs.declared.reply.Line.{Line}
use Rattle.mpw_replies.specs.declared.reply.Line.TheVariants as line
use Rattle.mpw_trail.specs.declared.verdict.Code.{Code}
use Rattle.mpw_trail.specs.declared.verdict.Code.TheVariants as code
use Rattle.mpw_replies.specs.declared.row.Done.{Done}
use Rattle.mpw_replies.specs.declared.row.Done.TheVariants.{Lists}
use Rattle.mpw_run.specs.declared.phase.Checked.{Checked}
use Rattle.mpw_run.specs.declared.phase.Phase.{Phase}
use Rattle.mpw_run.specs.declared.phase.Phase.TheVariants.{Idle, Cutting, Checking, Finished}
use Rattle.mpw_run.specs.Run.{Planned, answered}
use Rattle.mpw_run.specs.Step.{Run, findings, started, cancelled}
use Rattle.mpw_placings.specs.declared.wafer.Wafer.{Wafer}

-- ---- tests

-- No run is going on.
abbrev pub at_rest : Phase → Result (Unit {0}) Code
at_rest Idle = Ok tt
at_rest (Cutting planned) = Err code.Running
at_rest (Checking c) = Err code.Running
at_rest (Finished f) = Ok tt

-- A run is going on.
abbrev pub going_on : Phase → Result (Unit {0}) Code
going_on Idle = Err code.NoRun
going_on (Cutting planned) = Ok tt
going_on (Checking c) = Ok tt
going_on (Finished f) = Err code.NoRun

-- The placed cells have a shape, and at most 4096 tiles cover them.
abbrev pub cover_test : Snapshot → Option Tiling → Result Planned Code
cover_test snapshot None = Err code.Tiles
cover_test snapshot (Some plan) = Ok (record { snapshot = snapshot; plan = plan })

abbrev pub planning_over : Snapshot → List Item → Result Planned Code
planning_over snapshot [] = Err code.Empty
planning_over snapshot (item ∷ items) = cover_test snapshot (plan_for snapshot)

-- ---- decision tables

-- What a run checks: the deck, the placed submissions, in order, and their shelf.
abbrev pub snapshot_of : Deck → List Placement → List Submission → Snapshot
snapshot_of deck placings shelf = record { deck = deck; roots = roots_of placings; shelf = shelf }

abbrev pub planning : Snapshot → Result Planned Code
planning snapshot = planning_over snapshot (shown snapshot)

-- The decision table of `run`: what a new run checks, with the plan of its tiles.
unfoldable pub run_row : List Submission → Wafer → Run → Result Planned Code
run_row shelf wafer run = do
  free ← at_rest run.phase
  deck ← needed code.NoDeck wafer.deck
  planning (snapshot_of deck wafer.placings shelf)

-- How far the run is.
abbrev pub phase_line : ℕ → Phase → Line
phase_line number Idle = line.Idle
phase_line number (Cutting planned) = line.Cutting number
phase_line number (Checking c) = line.Checking number (answered c.tiles) (tiles c.planned.plan)
phase_line number (Finished f) = line.Finished number

-- The markers of a finished run, as far as the session may read the cells that they touch.
abbrev pub checked_lines : Policy → ℕ → Checked → List Listed
checked_lines policy connection f =
    let shelf = f.planned.snapshot.shelf in
    book_lines f.planned.snapshot.deck.rules shelf (seen_by policy connection shelf) f.book

-- ---- each request

-- How a request changes the run: a new one begins over what was planned, or it is cancelled.
pub data RunChange : Type 0 where
  begun : Planned → RunChange
  left_off : RunChange

abbrev pub run_after : Run → RunChange → Run
run_after run (begun planned) = started run planned
run_after run left_off = cancelled run

-- The decision table of each request. The reply to an accepted `run` has the run's number.
abbrev pub row_of : Policy → List Submission → Wafer → Run → ℕ → RunRequest
    → Result (Done RunChange) Code
row_of policy shelf wafer run connection ask.Run =
    changing begun (λ planned. line.Run (run.number + 1) ∷ []) (run_row shelf wafer run)
row_of policy shelf wafer run connection ask.Cancel =
    changing (λ x. left_off) (λ x. []) (going_on run.phase)
row_of policy shelf wafer run connection ask.Status =
    Ok (Lists (stored (phase_line run.number run.phase) ∷ []))
row_of policy shelf wafer run connection ask.Markers =
    listing (checked_lines policy connection) (needed code.NotFinished (findings run.phase))
