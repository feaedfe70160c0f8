-- What a decision table that gives a user has passed, and the tests of a waiver.
use Rattle.std.proofs.Common.{◌≡◌, ℕ, cond, List, Option, None, Some, is_some, Result, Ok, Err, refl, ap}
use Rattle.mpw_replies.proofs.RowParts.{passed}
use Rattle.mpw_rbac.specs.Policy.{Policy}
use Rattle.mpw_rbac.specs.Rows.{user_of}
use Rattle.mpw_requests.specs.declared.sign_off.MarkerName.{MarkerName}
use Rattle.mpw_replies.specs.Rows.{needed}
use Rattle.mpw_trail.specs.declared.verdict.Code.TheVariants as code
use Rattle.mpw_run.specs.declared.phase.Checked.{Checked}
use Rattle.mpw_run.specs.declared.phase.Phase.{Phase}
use Rattle.mpw_run.specs.declared.phase.Phase.TheVariants.{Idle, Cutting, Checking, Finished}
use Rattle.mpw_run.specs.Step.{Run, findings}
use Rattle.mpw_waiver.specs.declared.fault.WaiverFault.{WaiverFault}
use Rattle.mpw_waiver.specs.declared.fault.WaiverFault.TheVariants.{Known, NoWaiver, Submitter, Asker}
use Rattle.mpw_waiver.specs.declared.waiver.Waiver.{Waiver}
use Rattle.mpw_waiver.specs.Signing.{ask_test, least_own_cell, separation_test, sign_test}
use Rattle.mpw_waiver.specs.Waivers.{waiver_at}
use Rattle.mpw_signoff.specs.declared.rows.ByUser.{ByUser}
use Rattle.mpw_signoff.specs.Named.{Named}
use Rattle.mpw_signoff.specs.declared.ending.SignOffEnding.TheVariants.{Refused}
use Rattle.mpw_signoff.specs.SigningOff.{finished, full_marker, passes, apart, by_user, waive_row, sign_row}

-- ---- decision tables that were passed

pub finished_is : (phase : Phase) (f : Checked)
    → needed (Refused code.NotFinished) (findings phase) ≡ Ok f → phase ≡ Finished f
finished_is Idle f e = absurd cc
finished_is (Cutting planned) f e = absurd cc
finished_is (Checking c) f e = absurd cc
finished_is (Finished g) f e = let same : g ≡ f = cc in ap Finished same

pub passes_is : (told : Result (Unit {0}) WaiverFault) (x : Unit {0}) → passes told ≡ Ok x
    → told ≡ Ok tt
passes_is (Ok tt) x e = refl
passes_is (Err Known) x e = absurd cc
passes_is (Err NoWaiver) x e = absurd cc
passes_is (Err (Submitter cell)) x e = absurd cc
passes_is (Err Asker) x e = absurd cc

-- what a decision table that gives a user has passed
pub record Passed (policy : Policy) (run : Run) (connection : ℕ) (name : MarkerName) (by : ByUser)
    (Free : Checked → Named → Type 0) : Type 0 where
  pub f : Checked
  pub n : Named
  pub phase : run.phase ≡ Finished f
  pub shown : full_marker policy connection f name ≡ Ok n
  pub free : Free f n
  pub is : by ≡ by_user policy connection n

abbrev pub IsFree : List (Option Waiver) → Checked → Named → Type 0
IsFree waivers f n = ask_test (waiver_at waivers n.place) ≡ Ok tt

abbrev pub IsApart : Policy → List (Option Waiver) → ℕ → Checked → Named → Type 0
IsApart policy waivers connection f n =
    sign_test f.planned.snapshot.shelf n.marker.met (user_of policy connection)
    (waiver_at waivers n.place) ≡ Ok tt

pub waive_passed : (policy : Policy) (run : Run) (waivers : List (Option Waiver)) (connection : ℕ)
    (name : MarkerName) (by : ByUser) → waive_row policy run waivers connection name ≡ Ok by
    → Passed policy run connection name by (IsFree waivers)
unfolding waive_row
waive_passed policy run waivers connection name by e =
    let f = passed (finished run) _ by e in
    let n = passed (full_marker policy connection f.0 name) _ by f.2 in
    let free = passed (passes (ask_test (waiver_at waivers n.0.place))) _ by n.2 in
    record {
      f = f.0;
      n = n.0;
      phase = finished_is run.phase f.0 f.1;
      shown = n.1;
      free = passes_is (ask_test (waiver_at waivers n.0.place)) free.0 free.1;
      is = cc;
    }

pub sign_passed : (policy : Policy) (run : Run) (waivers : List (Option Waiver)) (connection : ℕ)
    (name : MarkerName) (by : ByUser) → sign_row policy run waivers connection name ≡ Ok by
    → Passed policy run connection name by (IsApart policy waivers connection)
unfolding sign_row
sign_passed policy run waivers connection name by e =
    let f = passed (finished run) _ by e in
    let n = passed (full_marker policy connection f.0 name) _ by f.2 in
    let free = passed (apart f.0 waivers n.0 (user_of policy connection)) _ by n.2 in
    record {
      f = f.0;
      n = n.0;
      phase = finished_is run.phase f.0 f.1;
      shown = n.1;
      free = passes_is
          (sign_test f.0.planned.snapshot.shelf n.0.marker.met (user_of policy connection)
          (waiver_at waivers n.0.place)) free.0 free.1;
      is = cc;
    }

-- ---- tests of a waiver

pub asks_none : (o : Option Waiver) → ask_test o ≡ Ok tt → o ≡ None
asks_none None e = refl
asks_none (Some waiver) e = absurd cc

-- an unsigned waiver
pub record Unsigned (o : Option Waiver) : Type 0 where
  pub waiver : Waiver
  pub is : o ≡ Some waiver
  pub unsigned : waiver.signer ≡ None

pub signs_unsigned : (shelf : _) (met user : List ℕ) (o : Option Waiver)
    → sign_test shelf met user o ≡ Ok tt → Unsigned o
signs_unsigned shelf met user None e = absurd cc
signs_unsigned shelf met user (Some waiver) e = go waiver.signer refl e
  where
    go : (s : Option (List ℕ)) → waiver.signer ≡ s
        → cond (is_some s) (Err Known) (separation_test (least_own_cell shelf met user)
        waiver.asker user) ≡ Ok tt
        → Unsigned (Some waiver)
    go (Some signer) is e = absurd cc
    go None is e = record { waiver = waiver; is = refl; unsigned = is }
