-- Denials in the decision tables of the sign-off.
use Rattle.std.proofs.Common.{◌≡◌, ℕ, List, Bool, [], Option, None, Some, Result, Ok, Err, IfErr, refl, ap, subst}
use Rattle.std.specs.Prelude.{⊤}
use Rattle.mpw_markers.specs.Laws.{PlacesAreOfKeys}
use Rattle.mpw_rbac.specs.Policy.{Policy}
use Rattle.mpw_rbac.specs.Rows.{user_of}
use Rattle.mpw_requests.specs.declared.sign_off.MarkerName.{MarkerName}
use Rattle.mpw_requests.specs.declared.sign_off.SignOffRequest.{SignOffRequest}
use Rattle.mpw_requests.specs.declared.sign_off.SignOffRequest.TheVariants as ask
use Rattle.mpw_replies.specs.Sight.{is_full}
use Rattle.mpw_access.specs.Seen.{seen_by}
use Rattle.mpw_trail.specs.declared.verdict.Code.TheVariants as code
use Rattle.mpw_run.specs.declared.phase.Checked.{Checked}
use Rattle.mpw_run.specs.declared.phase.Phase.TheVariants.{Finished}
use Rattle.mpw_run.specs.Step.{Run, findings}
use Rattle.mpw_placings.specs.declared.wafer.Wafer.{Wafer}
use Rattle.mpw_waiver.specs.declared.fault.WaiverFault.{WaiverFault}
use Rattle.mpw_waiver.specs.declared.fault.WaiverFault.TheVariants as fault
use Rattle.mpw_waiver.specs.declared.waiver.Waiver.{Waiver}
use Rattle.mpw_laws.specs.WaiverLaws.{SubmitterIsLeast, AskerAsked}
use Rattle.mpw_waiver.specs.Signing.{ask_test, sign_test}
use Rattle.mpw_laws.specs.Signing.{if_passed, signed}
use Rattle.mpw_waiver.specs.Waivers.{waiver_at, with_signer}
use Rattle.mpw_laws.specs.SignOffLaws.{SubmittersAreTold, AskersAreTold}
use Rattle.mpw_signoff.specs.declared.ending.SignOffEnding.{SignOffEnding}
use Rattle.mpw_signoff.specs.declared.ending.SignOffEnding.TheVariants.{Refused, Submitter, Asker}
use Rattle.mpw_signoff.specs.Named.{Named, named_in}
use Rattle.mpw_signoff.specs.SigningOff.{apart, finished, full_marker, if_shown, passes, row_of, sign_row, waive_row}
use Rattle.mpw_laws.proofs.RowParts.{ends_behind, ends_tested, ends_needed, ends_listed, ends_changed}
use Rattle.mpw_laws.proofs.Shown.{finished_is, shown_is}

-- the test of separation ends `sign`
record IsKeptApart (policy : Policy) (run : Run) (waivers : List (Option Waiver)) (connection : ℕ)
    (request : SignOffRequest) (cause : WaiverFault) : Type 0 where
  name : MarkerName
  is : request ≡ ask.Sign name
  f : Checked
  n : Named
  phase : run.phase ≡ Finished f
  is_shown : full_marker policy connection f name ≡ Ok n
  test : sign_test f.planned.snapshot.shelf n.marker.met (user_of policy connection)
      (waiver_at waivers n.place) ≡ Err cause

-- what ends a table of the sign-off has its cause
abbrev HasCause : Policy → Run → List (Option Waiver) → ℕ → SignOffRequest → SignOffEnding → Type 0
HasCause policy run waivers connection request (Refused why) = ⊤
HasCause policy run waivers connection request (Submitter cell) =
    IsKeptApart policy run waivers connection request (fault.Submitter cell)
HasCause policy run waivers connection request Asker =
    IsKeptApart policy run waivers connection request fault.Asker

module _ (policy : Policy) (run : Run) (waivers : List (Option Waiver)) (connection : ℕ)
    (request : SignOffRequest) where
  abbrev Of : SignOffEnding → Type 0
  Of = HasCause policy run waivers connection request

  finished_ends : IfErr (finished run) Of
  finished_ends = ends_needed Of (Refused code.NotFinished) (findings run.phase) tt

  full_ends : (seen : List Bool) (o : Option Named) → IfErr (if_shown seen o) Of
  full_ends seen None = tt
  full_ends seen (Some n) = ends_tested Of (is_full seen n.marker) _ _ tt tt

  shown_ends : (f : Checked) (name : MarkerName)
      → IfErr (full_marker policy connection f name) Of
  unfolding full_marker
  shown_ends f name =
      full_ends (seen_by policy connection f.planned.snapshot.shelf)
      (named_in f.planned.snapshot.deck.rules f.book name)

  free_ends : (o : Option Waiver) → IfErr (passes (ask_test o)) Of
  free_ends None = tt
  free_ends (Some waiver) = tt

  apart_ends : (name : MarkerName) (f : Checked) (n : Named) → request ≡ ask.Sign name
      → run.phase ≡ Finished f → full_marker policy connection f name ≡ Ok n
      → IfErr (apart f waivers n (user_of policy connection)) Of
  apart_ends name f n is phase shown =
      go (sign_test f.planned.snapshot.shelf n.marker.met (user_of policy connection)
      (waiver_at waivers n.place)) (λ cause test. record {
        name = name;
        is = is;
        f = f;
        n = n;
        phase = phase;
        is_shown = shown;
        test = test;
      })
    where
      go : (told : Result (Unit {0}) WaiverFault) → ((cause : WaiverFault) → told ≡ Err cause
          → IsKeptApart policy run waivers connection request cause) → IfErr (passes told) Of
      go (Ok x) kept = tt
      go (Err fault.Known) kept = tt
      go (Err fault.NoWaiver) kept = tt
      go (Err (fault.Submitter cell)) kept = kept (fault.Submitter cell) refl
      go (Err fault.Asker) kept = kept fault.Asker refl

  waive_ends : (name : MarkerName) → IfErr (waive_row policy run waivers connection name) Of
  unfolding waive_row
  waive_ends name =
      ends_behind Of (finished run) _ finished_ends (λ f passed.
      ends_behind Of (full_marker policy connection f name) _ (shown_ends f name) (λ n shown.
      ends_behind Of (passes (ask_test (waiver_at waivers n.place))) _
      (free_ends (waiver_at waivers n.place)) (λ free is. tt)))

  sign_ends : (name : MarkerName) → request ≡ ask.Sign name
      → IfErr (sign_row policy run waivers connection name) Of
  unfolding sign_row
  sign_ends name same =
      ends_behind Of (finished run) _ finished_ends (λ f passed.
      ends_behind Of (full_marker policy connection f name) _ (shown_ends f name) (λ n shown.
      ends_behind Of (apart f waivers n (user_of policy connection)) _
      (apart_ends name f n same (finished_is _ run.phase f passed) shown) (λ free is. tt)))

module _ (policy : Policy) (wafer : Wafer) (run : Run) (waivers : List (Option Waiver))
    (connection : ℕ) where
  each_ends : (request : SignOffRequest)
      → IfErr (row_of policy wafer run waivers connection request)
      (HasCause policy run waivers connection request)
  each_ends (ask.Waive name) =
      ends_changed _ _ (λ by. []) (waive_row policy run waivers connection name)
      (waive_ends policy run waivers connection (ask.Waive name) name)
  each_ends (ask.Sign name) =
      ends_changed _ _ (λ by. []) (sign_row policy run waivers connection name)
      (sign_ends policy run waivers connection (ask.Sign name) name refl)
  each_ends request = search (ends_listed, ends_behind, ends_needed)

  cause_of : (request : SignOffRequest) (e : SignOffEnding)
      → row_of policy wafer run waivers connection request ≡ Err e
      → HasCause policy run waivers connection request e
  cause_of request e is =
      subst (λ row. IfErr row (HasCause policy run waivers connection request)) is
      (each_ends request)

-- ---- the laws

-- the waiver's own test ends in the fault that the denial shows
signed_fails : (policy : Policy) (run : Run) (waivers : List (Option Waiver)) (connection : ℕ)
    (request : SignOffRequest) (cause : WaiverFault)
    (k : IsKeptApart policy run waivers connection request cause)
    → signed k.f.planned.snapshot.shelf waivers k.n.place k.n.marker.met (user_of policy connection)
    ≡ Err cause
unfolding signed
signed_fails policy run waivers connection request cause k =
    ap (λ t. if_passed t (with_signer waivers k.n.place (user_of policy connection))) k.test

pub submitters_told : PlacesAreOfKeys → SubmitterIsLeast → SubmittersAreTold
submitters_told keys least policy wafer run waivers connection request cell e =
    let k : IsKeptApart policy run waivers connection request (fault.Submitter cell) =
    cause_of policy wafer run waivers connection request (Submitter cell) e in
    let own = least k.f.planned.snapshot.shelf waivers k.n.place k.n.marker.met
    (user_of policy connection) cell
    (signed_fails policy run waivers connection request (fault.Submitter cell) k) in (
      k.name,
      k.is,
      record {
        checked = k.f;
        place = k.n.place;
        marker = k.n.marker;
        finished = k.phase;
        shown = shown_is keys policy connection k.f k.name k.n k.is_shown;
        own = own.0;
        least = own.1;
      },
    )

pub askers_told : PlacesAreOfKeys → AskerAsked → AskersAreTold
askers_told keys asked policy wafer run waivers connection request e =
    let k : IsKeptApart policy run waivers connection request fault.Asker =
    cause_of policy wafer run waivers connection request Asker e in
    let w =
    asked k.f.planned.snapshot.shelf waivers k.n.place k.n.marker.met
    (user_of policy connection)
    (signed_fails policy run waivers connection request fault.Asker k) in (
      k.name,
      k.is,
      record {
        checked = k.f;
        place = k.n.place;
        marker = k.n.marker;
        finished = k.phase;
        shown = shown_is keys policy connection k.f k.name k.n k.is_shown;
        waiver = w.0;
        is = w.1;
        asker = w.2;
      },
    )
