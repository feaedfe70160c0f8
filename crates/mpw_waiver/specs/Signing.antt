-- Who may ask for a waiver and who may sign it: the tests in order.
use Rattle.std.specs.Prelude.{ℕ, List, slice_get, is_some, Option, None, Some, Result, Ok, Err, filter_map, if◌then◌else◌}
use Rattle.mpw_geom.specs.Names.{name_eq}
use Rattle.mpw_hier.specs.declared.submission.Submission.{Submission}
use Rattle.mpw_waiver.specs.declared.fault.WaiverFault.{WaiverFault}
use Rattle.mpw_waiver.specs.declared.fault.WaiverFault.TheVariants.{Known, NoWaiver, Submitter, Asker}
use Rattle.mpw_waiver.specs.declared.waiver.Waiver.{Waiver}
use Rattle.mpw_geom.specs.Least.{least_name}

-- A waiver can be asked for if there is none.
abbrev pub ask_test : Option Waiver → Result (Unit {0}) WaiverFault
ask_test None = Ok tt
ask_test (Some waiver) = Err Known

-- The cell of a submission, if the user submitted it.
abbrev pub own_cell : List ℕ → Option Submission → Option (List ℕ)
own_cell user None = None
own_cell user (Some s) = if name_eq s.submitter user then Some s.cell else None

-- The cells of those touched submissions that the user submitted.
unfoldable pub own_cells : List Submission → List ℕ → List ℕ → List (List ℕ)
own_cells shelf met user = filter_map (λ number. own_cell user (slice_get shelf number)) met

-- The first of them in alphabetical order.
unfoldable pub least_own_cell : List Submission → List ℕ → List ℕ → Option (List ℕ)
least_own_cell shelf met user = least_name (own_cells shelf met user)

-- A user who submitted what the marker touches, or asked for its waiver, can't sign it.
abbrev pub separation_test : Option (List ℕ) → List ℕ → List ℕ → Result (Unit {0}) WaiverFault
separation_test (Some cell) asker user = Err (Submitter cell)
separation_test None asker user = if name_eq asker user then Err Asker else Ok tt

-- An unsigned waiver can be signed, by a user who passes the test of separation.
abbrev pub sign_test : List Submission → List ℕ → List ℕ → Option Waiver
    → Result (Unit {0}) WaiverFault
sign_test shelf met user None = Err NoWaiver
sign_test shelf met user (Some waiver) =
    if is_some waiver.signer then Err Known else separation_test (least_own_cell shelf met user)
    waiver.asker user
