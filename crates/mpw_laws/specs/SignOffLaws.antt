-- Laws of the sign-off requests.
use Rattle.std.specs.Prelude.{[], ◌≡◌, ◌<◌, ℕ, true, false, List, ◌∷◌, length, slice_get, All, Option, None, Some, Ok, Err, IfOk}
use Rattle.std.specs.Ordering.{is_lt}
use Rattle.mpw_geom.specs.Names.{name_cmp}
use Rattle.mpw_deck.specs.declared.rule.Rule.{Rule}
use Rattle.mpw_placings.specs.Placements.{roots_of}
use Rattle.mpw_markers.specs.declared.marker.Marker.{Marker}
use Rattle.mpw_rbac.specs.Policy.{Policy}
use Rattle.mpw_rbac.specs.Rows.{user_of}
use Rattle.mpw_requests.specs.declared.sign_off.MarkerName.{MarkerName}
use Rattle.mpw_requests.specs.declared.sign_off.SignOffRequest.{SignOffRequest}
use Rattle.mpw_requests.specs.declared.sign_off.SignOffRequest.TheVariants as ask
use Rattle.mpw_replies.specs.Listing.{Listed, stored}
use Rattle.mpw_laws.specs.Readable.{IsOfReadable, lines_of}
use Rattle.mpw_replies.specs.Sight.{is_full}
use Rattle.mpw_access.specs.Seen.{seen_by}
use Rattle.mpw_replies.specs.declared.reply.Line.TheVariants as line
use Rattle.mpw_replies.specs.declared.row.Done.TheVariants.{Changes}
use Rattle.mpw_run.specs.declared.phase.Checked.{Checked}
use Rattle.mpw_run.specs.declared.phase.Phase.TheVariants.{Finished}
use Rattle.mpw_run.specs.Step.{Run}
use Rattle.mpw_placings.specs.declared.wafer.Wafer.{Wafer}
use Rattle.mpw_waiver.specs.declared.waiver.Waiver.{Waiver}
use Rattle.mpw_laws.specs.WaiverLaws.{IsOwn, MaySign}
use Rattle.mpw_waiver.specs.Waivers.{waiver_at, is_signed, with_asker, with_signer}
use Rattle.mpw_signoff.specs.declared.ending.SignOffEnding.TheVariants.{Submitter, Asker}
use Rattle.mpw_signoff.specs.declared.rows.WaiverChange.{WaiverChange}
use Rattle.mpw_signoff.specs.Named.{name_for}
use Rattle.mpw_signoff.specs.SigningOff.{row_of, waivers_after}
use Rattle.mpw_signoff.specs.WaiverLines.{waiver_line}

-- ---- full markers

-- A marker of the book at an index, which has this name and is full for the session.
pub record IsShownInFull (policy : Policy) (connection : ℕ) (f : Checked) (name : MarkerName)
    (place : ℕ)
    (marker : Marker) : Type 0 where
  pub rule : Rule
  pub at : slice_get f.book place ≡ Some marker
  pub of_rule : slice_get f.planned.snapshot.deck.rules marker.key.rule ≡ Some rule
  pub named : name ≡ name_for rule.name marker
  pub full : is_full (seen_by policy connection f.planned.snapshot.shelf) marker ≡ true

-- An accepted request is of such a marker without a waiver, and the session's user asked for one.
pub record IsRightlyAsked (policy : Policy) (run : Run) (waivers : List (Option Waiver))
    (connection : ℕ)
    (name : MarkerName) (after : List (Option Waiver)) : Type 0 where
  pub checked : Checked
  pub place : ℕ
  pub marker : Marker
  pub finished : run.phase ≡ Finished checked
  pub shown : IsShownInFull policy connection checked name place marker
  pub free : waiver_at waivers place ≡ None
  pub left : after ≡ with_asker waivers place (user_of policy connection)

-- Or the session's user signed it, and may do so: the user neither asked for it nor submitted what the marker
-- touches.
pub record IsRightlySigned (policy : Policy) (run : Run) (waivers : List (Option Waiver))
    (connection : ℕ)
    (name : MarkerName) (after : List (Option Waiver)) : Type 0 where
  pub checked : Checked
  pub place : ℕ
  pub marker : Marker
  pub finished : run.phase ≡ Finished checked
  pub shown : IsShownInFull policy connection checked name place marker
  pub may : MaySign checked.planned.snapshot.shelf waivers place marker.met
      (user_of policy connection)
  pub left : after ≡ with_signer waivers place (user_of policy connection)

-- A line of a listing has the waiver of such a marker.
pub record IsTold (policy : Policy) (connection : ℕ) (f : Checked) (waivers : List (Option Waiver))
    (listed : Listed) : Type 0 where
  pub place : ℕ
  pub marker : Marker
  pub name : MarkerName
  pub waiver : Waiver
  pub shown : IsShownInFull policy connection f name place marker
  pub is : waiver_at waivers place ≡ Some waiver
  pub line : listed ≡ stored (waiver_line name waiver.asker waiver.signer)

-- What the change of a request that names a marker leaves of the waivers.
abbrev pub AcceptedLeaves : (MarkerName → SignOffRequest)
    → (Policy → Run → List (Option Waiver) → ℕ → MarkerName → List (Option Waiver) → Type 0)
    → Type 0
AcceptedLeaves request leaves =
    (policy : Policy) (wafer : Wafer) (run : Run) (waivers : List (Option Waiver)) (connection : ℕ)
    (name : MarkerName) (change : WaiverChange) (lines : List Listed)
    → row_of policy wafer run waivers connection (request name) ≡ Ok (Changes change lines)
    → leaves policy run waivers connection name (waivers_after waivers change)

-- A marker whose waiver is asked for is full.
abbrev pub AskedAreShown : Type 0
AskedAreShown = AcceptedLeaves ask.Waive IsRightlyAsked

-- A marker whose waiver is signed is full, and its signer is apart from it.
abbrev pub SignersStandApart : Type 0
SignersStandApart = AcceptedLeaves ask.Sign IsRightlySigned

-- A marker that is listed is full.
abbrev pub ToldAreShown : Type 0
ToldAreShown =
    (policy : Policy) (wafer : Wafer) (run : Run) (waivers : List (Option Waiver)) (connection : ℕ)
    → IfOk (row_of policy wafer run waivers connection ask.Waivers) (λ done. (f : Checked)
    × (run.phase ≡ Finished f) × All (IsTold policy connection f waivers) (lines_of done))

-- ---- denials

-- The user submitted a version of the cell that the marker touches, and none of an earlier cell in
-- alphabetical order.
pub record IsSubmitter (policy : Policy) (run : Run) (connection : ℕ) (name : MarkerName)
    (cell : List ℕ) : Type 0 where
  pub checked : Checked
  pub place : ℕ
  pub marker : Marker
  pub finished : run.phase ≡ Finished checked
  pub shown : IsShownInFull policy connection checked name place marker
  pub own : IsOwn checked.planned.snapshot.shelf marker.met (user_of policy connection) cell
  pub least : (other : List ℕ) → IsOwn checked.planned.snapshot.shelf marker.met
      (user_of policy connection) other
      → is_lt (name_cmp other cell) ≡ false

-- The user asked for the marker's waiver.
pub record IsAsker (policy : Policy) (run : Run) (waivers : List (Option Waiver)) (connection : ℕ)
    (name : MarkerName) : Type 0 where
  pub checked : Checked
  pub place : ℕ
  pub marker : Marker
  pub finished : run.phase ≡ Finished checked
  pub shown : IsShownInFull policy connection checked name place marker
  pub waiver : Waiver
  pub is : waiver_at waivers place ≡ Some waiver
  pub asker : waiver.asker ≡ user_of policy connection

-- Only a request to sign is denied because the user is a submitter or the asker, and the user is one.
abbrev pub SubmittersAreTold : Type 0
SubmittersAreTold =
    (policy : Policy) (wafer : Wafer) (run : Run) (waivers : List (Option Waiver)) (connection : ℕ)
    (request : SignOffRequest) (cell : List ℕ)
    → row_of policy wafer run waivers connection request ≡ Err (Submitter cell)
    → (name : MarkerName) × (request ≡ ask.Sign name) × IsSubmitter policy run connection name cell

abbrev pub AskersAreTold : Type 0
AskersAreTold =
    (policy : Policy) (wafer : Wafer) (run : Run) (waivers : List (Option Waiver)) (connection : ℕ)
    (request : SignOffRequest)
    → row_of policy wafer run waivers connection request ≡ Err Asker
    → (name : MarkerName) × (request ≡ ask.Sign name) × IsAsker policy run waivers connection name

-- A change leaves the number of entries unchanged.
abbrev pub PlacesAreLeft : Type 0
PlacesAreLeft = (waivers : List (Option Waiver)) (change : WaiverChange)
    → length (waivers_after waivers change) ≡ length waivers

-- ---- verdicts and lines

-- The run is finished, and the deck and the placings are those that it checked. If each marker of its book
-- has an entry, each has a signed waiver.
pub record IsSignedOff (wafer : Wafer) (run : Run) (waivers : List (Option Waiver)) : Type 0 where
  pub checked : Checked
  pub finished : run.phase ≡ Finished checked
  pub deck : wafer.deck ≡ Some checked.planned.snapshot.deck
  pub roots : roots_of wafer.placings ≡ checked.planned.snapshot.roots
  pub signed : length waivers ≡ length checked.book → (place : ℕ) → place < length checked.book
      → is_signed (waiver_at waivers place) ≡ true

-- A run with the verdict `clean` is signed off.
abbrev pub CleanIsSignedOff : Type 0
CleanIsSignedOff =
    (policy : Policy) (wafer : Wafer) (run : Run) (waivers : List (Option Waiver)) (connection : ℕ)
    → IfOk (row_of policy wafer run waivers connection ask.Verdict)
    (λ done. lines_of done ≡ stored line.Clean ∷ [] → IsSignedOff wafer run waivers)

-- A finished run, with the deck and the placings that it checked and with all waivers signed, has the verdict
-- `clean`.
abbrev pub SignedOffIsClean : Type 0
SignedOffIsClean =
    (policy : Policy) (wafer : Wafer) (run : Run) (waivers : List (Option Waiver)) (connection : ℕ)
    (f : Checked)
    → run.phase ≡ Finished f → wafer.deck ≡ Some f.planned.snapshot.deck
    → roots_of wafer.placings ≡ f.planned.snapshot.roots
    → All (λ waiver. is_signed waiver ≡ true) waivers
    → IfOk (row_of policy wafer run waivers connection ask.Verdict)
    (λ done. lines_of done ≡ stored line.Clean ∷ [])

-- The lines of `waivers` name only cells that the session may read.
abbrev pub SignOffLinesAreOfReadable : Type 0
SignOffLinesAreOfReadable =
    (policy : Policy) (wafer : Wafer) (run : Run) (waivers : List (Option Waiver)) (connection : ℕ)
    (request : SignOffRequest)
    → IfOk (row_of policy wafer run waivers connection request)
    (λ done. All (IsOfReadable policy connection) (lines_of done))
