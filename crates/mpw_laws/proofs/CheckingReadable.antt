-- The requests of the run list only what may be read.
use Rattle.std.proofs.Common.{ℕ, ◌+◌, List, [], ◌∷◌, arith}
use Rattle.std.specs.Prelude.{All}
use Rattle.std.proofs.lemmas.List.Elements.{All-cons}
use Rattle.mpw_laws.proofs.RowParts.{if_ok, if_listed, if_changed}
use Rattle.mpw_rbac.specs.Policy.{Policy}
use Rattle.mpw_requests.specs.declared.run.RunRequest.TheVariants as ask
use Rattle.mpw_laws.specs.ListingLaws.{BooksAreOfReadable}
use Rattle.mpw_replies.specs.Listing.{Listed, stored}
use Rattle.mpw_laws.specs.Readable.{IsOfReadable}
use Rattle.mpw_replies.specs.Rows.{needed}
use Rattle.mpw_trail.specs.declared.verdict.Code.TheVariants as code
use Rattle.mpw_replies.specs.declared.reply.Line.TheVariants as line
use Rattle.mpw_run.specs.declared.phase.Phase.{Phase}
use Rattle.mpw_run.specs.declared.phase.Phase.TheVariants.{Idle, Cutting, Checking, Finished}
use Rattle.mpw_run.specs.Step.{findings}
use Rattle.mpw_laws.specs.CheckingLaws.{MarkersAreOfReadable}
use Rattle.mpw_wafer.specs.Run.Checking.{checked_lines, going_on, phase_line, run_row}

module _ (policy : Policy) (connection : ℕ) where
  abbrev Readable : List Listed → Type 0
  Readable lines = All (IsOfReadable policy connection) lines

  none : Readable []
  none = λ k d lt. absurd (omega (arith, lt))

  one : (l : Listed) → IsOfReadable policy connection l → Readable (l ∷ [])
  one l may = All-cons (IsOfReadable policy connection) l [] may none

  of_phase : (number : ℕ) (phase : Phase) → Readable (stored (phase_line number phase) ∷ [])
  of_phase number Idle = one (stored line.Idle) tt
  of_phase number (Cutting planned) = one (stored (line.Cutting number)) tt
  of_phase number (Checking c) = one (stored (phase_line number (Checking c))) tt
  of_phase number (Finished f) = one (stored (line.Finished number)) tt

pub lines_may : BooksAreOfReadable → MarkersAreOfReadable
lines_may books policy shelf wafer run connection ask.Run =
    if_changed _ _ (λ planned. line.Run (run.number + 1) ∷ []) (run_row shelf wafer run)
    (λ planned is. one policy connection (stored (line.Run (run.number + 1))) tt)
lines_may books policy shelf wafer run connection ask.Cancel =
    if_changed _ _ (λ x. []) (going_on run.phase) (λ left is. none policy connection)
lines_may books policy shelf wafer run connection ask.Status =
    of_phase policy connection run.number run.phase
lines_may books policy shelf wafer run connection ask.Markers =
    let found = needed code.NotFinished (findings run.phase) in
    if_listed _ (checked_lines policy connection) found (if_ok _ found (λ f is.
    books policy connection f.planned.snapshot.deck.rules f.planned.snapshot.shelf f.book))
