-- A waiver that was asked for and signed stays so: what sign-off requests leave of it.
use Rattle.std.specs.Prelude.{◌≡◌, ◌↔◌, ℕ, List, [], length, Option, None, Some, Ok, Err}
use Rattle.mpw_permissions.specs.declared.permission.Operation.{Operation}
use Rattle.mpw_permissions.specs.declared.permission.Operation.TheVariants as operation
use Rattle.mpw_permissions.specs.declared.permission.Object.TheVariants as object
use Rattle.mpw_rbac.specs.Policy.{Policy}
use Rattle.mpw_rbac.specs.Rows.{user_of}
use Rattle.mpw_requests.specs.declared.need.Need.TheVariants.{Permission}
use Rattle.mpw_requests.specs.declared.sign_off.MarkerName.{MarkerName}
use Rattle.mpw_requests.specs.declared.sign_off.SignOffRequest.{SignOffRequest}
use Rattle.mpw_requests.specs.declared.sign_off.SignOffRequest.TheVariants as ask
use Rattle.mpw_requests.specs.Needs.{sign_off_need}
use Rattle.mpw_replies.specs.Listing.{Listed}
use Rattle.mpw_trail.specs.declared.verdict.Code.TheVariants as code
use Rattle.mpw_replies.specs.declared.row.Done.TheVariants.{Changes}
use Rattle.mpw_access.specs.Guard.{entered}
use Rattle.mpw_placings.specs.declared.wafer.Wafer.{Wafer}
use Rattle.mpw_run.specs.declared.phase.Checked.{Checked}
use Rattle.mpw_run.specs.declared.phase.Phase.TheVariants.{Finished}
use Rattle.mpw_run.specs.Step.{Run, book_size}
use Rattle.mpw_waiver.specs.declared.waiver.Waiver.{Waiver}
use Rattle.mpw_waiver.specs.Signing.{sign_test}
use Rattle.mpw_waiver.specs.Waivers.{waiver_at}
use Rattle.mpw_signoff.specs.declared.rows.WaiverChange.{WaiverChange}
use Rattle.mpw_signoff.specs.Named.{Named}
use Rattle.mpw_signoff.specs.declared.ending.SignOffEnding.TheVariants.{Refused}
use Rattle.mpw_signoff.specs.SigningOff.{full_marker, row_of, waivers_after}

-- ---- what the change of any request leaves

-- A signed waiver stays as it is. Without a change, all waivers do.
abbrev pub SignaturesStay : Type 0
SignaturesStay =
    (policy : Policy) (wafer : Wafer) (run : Run) (waivers : List (Option Waiver)) (connection : ℕ)
    (request : SignOffRequest) (change : WaiverChange) (lines : List Listed)
    → row_of policy wafer run waivers connection request ≡ Ok (Changes change lines)
    → (place : ℕ) (waiver : Waiver) (signer : List ℕ)
    → waiver_at waivers place ≡ Some waiver → waiver.signer ≡ Some signer
    → waiver_at (waivers_after waivers change) place ≡ Some waiver

-- The waiver of a marker still exists, and this user asked for it.
pub record IsAskedBy (waivers : List (Option Waiver)) (place : ℕ) (asker : List ℕ) : Type 0 where
  pub waiver : Waiver
  pub is : waiver_at waivers place ≡ Some waiver
  pub by : waiver.asker ≡ asker

-- A waiver that was asked for stays, with the user who asked for it.
abbrev pub AskersStay : Type 0
AskersStay =
    (policy : Policy) (wafer : Wafer) (run : Run) (waivers : List (Option Waiver)) (connection : ℕ)
    (request : SignOffRequest) (change : WaiverChange) (lines : List Listed)
    → row_of policy wafer run waivers connection request ≡ Ok (Changes change lines)
    → (place : ℕ) (asker : List ℕ) → IsAskedBy waivers place asker
    → IsAskedBy (waivers_after waivers change) place asker

-- ---- which session reaches a marker

-- The session may do the operation on the desk, the run is finished, and the name is that of a marker that is
-- full.
pub record Reaches (policy : Policy) (run : Run) (connection : ℕ) (asked : Operation)
    (name : MarkerName) : Type 0 where
  pub checked : Checked
  pub named : Named
  pub allowed : entered policy connection (Permission asked object.Desk) ≡ Ok tt
  pub finished : run.phase ≡ Finished checked
  pub shown : full_marker policy connection checked name ≡ Ok named

-- ---- who signs

-- Such a session's user passes the test of the marker's waiver: it exists and is unsigned, and the user
-- neither asked for it nor submitted what the marker touches.
pub record IsSignable (policy : Policy) (run : Run) (waivers : List (Option Waiver)) (connection : ℕ)
    (name : MarkerName) : Type 0 where
  pub reaches : Reaches policy run connection operation.Sign name
  pub passes : sign_test reaches.checked.planned.snapshot.shelf reaches.named.marker.met
      (user_of policy connection) (waiver_at waivers reaches.named.place)
      ≡ Ok tt

-- A request is accepted: the connection has what the request needs, the waivers change, and the reply has no
-- lines.
pub record IsAccepted (policy : Policy) (wafer : Wafer) (run : Run) (waivers : List (Option Waiver))
    (connection : ℕ) (request : SignOffRequest) : Type 0 where
  pub allowed : entered policy connection (sign_off_need request) ≡ Ok tt
  pub change : WaiverChange
  pub is : row_of policy wafer run waivers connection request ≡ Ok (Changes change [])

-- A `sign` is accepted from such a session, and from no other.
abbrev pub SignedExactly : Type 0
SignedExactly =
    (policy : Policy) (wafer : Wafer) (run : Run) (waivers : List (Option Waiver)) (connection : ℕ)
    (name : MarkerName)
    → IsAccepted policy wafer run waivers connection (ask.Sign name)
    ↔ IsSignable policy run waivers connection name

-- The same for asking: the marker has no waiver.
pub record IsAskable (policy : Policy) (run : Run) (waivers : List (Option Waiver)) (connection : ℕ)
    (name : MarkerName) : Type 0 where
  pub reaches : Reaches policy run connection operation.Waive name
  pub none : waiver_at waivers reaches.named.place ≡ None

abbrev pub AskedExactly : Type 0
AskedExactly =
    (policy : Policy) (wafer : Wafer) (run : Run) (waivers : List (Option Waiver)) (connection : ℕ)
    (name : MarkerName)
    → IsAccepted policy wafer run waivers connection (ask.Waive name)
    ↔ IsAskable policy run waivers connection name

-- ---- who comes second

-- A request is refused as known: the connection has what the request needs, and the decision table refuses it.
pub record IsKnown (policy : Policy) (wafer : Wafer) (run : Run) (waivers : List (Option Waiver))
    (connection : ℕ) (request : SignOffRequest) : Type 0 where
  pub allowed : entered policy connection (sign_off_need request) ≡ Ok tt
  pub is : row_of policy wafer run waivers connection request ≡ Err (Refused code.Known)

-- After a marker's waiver was signed, nobody else can sign it, whatever the policy is then: a session that
-- reaches it is refused.
abbrev pub SecondSignaturesAreRefused : Type 0
SecondSignaturesAreRefused =
    (policy other : Policy) (wafer later : Wafer) (run : Run) (waivers : List (Option Waiver))
    (connection another : ℕ) (name : MarkerName)
    → (signed : IsAccepted policy wafer run waivers connection (ask.Sign name))
    → Reaches other run another operation.Sign name
    → IsKnown other later run (waivers_after waivers signed.change) another (ask.Sign name)

-- After a waiver of a marker was asked for, nobody else can ask for one, if each marker of the book has an
-- entry for its waiver.
abbrev pub SecondAskersAreRefused : Type 0
SecondAskersAreRefused =
    (policy other : Policy) (wafer later : Wafer) (run : Run) (waivers : List (Option Waiver))
    (connection another : ℕ) (name : MarkerName) → length waivers ≡ book_size run.phase
    → (asked : IsAccepted policy wafer run waivers connection (ask.Waive name))
    → Reaches other run another operation.Waive name
    → IsKnown other later run (waivers_after waivers asked.change) another (ask.Waive name)
