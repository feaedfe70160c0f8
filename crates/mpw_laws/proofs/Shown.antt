-- The marker of an accepted request.
use Rattle.std.proofs.Common.{◌≡◌, ◌∙◌, ℕ, Bool, true, false, cond, List, [], Option, None, Some, Result, Ok, Err, refl, sym, ap}
use Rattle.mpw_replies.proofs.RowParts.{passed, changed}
use Rattle.mpw_markers.specs.Laws.{PlacesAreOfKeys}
use Rattle.mpw_rbac.specs.Policy.{Policy}
use Rattle.mpw_rbac.specs.Rows.{user_of}
use Rattle.mpw_requests.specs.declared.sign_off.MarkerName.{MarkerName}
use Rattle.mpw_replies.specs.Rows.{◌>>=◌, needed}
use Rattle.mpw_replies.specs.Sight.{is_full}
use Rattle.mpw_access.specs.Seen.{seen_by}
use Rattle.mpw_trail.specs.declared.verdict.Code.TheVariants as code
use Rattle.mpw_run.specs.declared.phase.Checked.{Checked}
use Rattle.mpw_run.specs.declared.phase.Phase.{Phase}
use Rattle.mpw_run.specs.declared.phase.Phase.TheVariants.{Idle, Cutting, Checking, Finished}
use Rattle.mpw_run.specs.Step.{Run, findings}
use Rattle.mpw_waiver.specs.declared.fault.WaiverFault.{WaiverFault}
use Rattle.mpw_waiver.specs.declared.fault.WaiverFault.TheVariants.{Known, NoWaiver, Submitter, Asker}
use Rattle.mpw_laws.specs.WaiverLaws.{SignersAreApart}
use Rattle.mpw_waiver.specs.Signing.{ask_test, sign_test}
use Rattle.mpw_laws.specs.Signing.{if_passed, signed}
use Rattle.mpw_waiver.specs.declared.waiver.Waiver.{Waiver}
use Rattle.mpw_waiver.specs.Waivers.{waiver_at, with_signer}
use Rattle.mpw_signoff.specs.declared.ending.SignOffEnding.{SignOffEnding}
use Rattle.mpw_signoff.specs.declared.ending.SignOffEnding.TheVariants.{Refused}
use Rattle.mpw_signoff.specs.declared.rows.ByUser.{ByUser}
use Rattle.mpw_signoff.specs.declared.rows.WaiverChange.TheVariants.{Asked, Signed}
use Rattle.mpw_laws.specs.SignOffLaws.{IsShownInFull, AskedAreShown, SignersStandApart}
use Rattle.mpw_signoff.specs.Named.{Named, named_in}
use Rattle.mpw_signoff.specs.SigningOff.{finished, if_full, if_shown, full_marker, passes, by_user, waive_row, sign_row, waivers_after}
use Rattle.mpw_laws.proofs.Naming.{named_is}

pub finished_is : {E : Type 0} (why : E) (phase : Phase) (f : Checked)
    → needed why (findings phase) ≡ Ok f → phase ≡ Finished f
finished_is why Idle f e = absurd cc
finished_is why (Cutting planned) f e = absurd cc
finished_is why (Checking c) f e = absurd cc
finished_is why (Finished g) f e = let same : g ≡ f = cc in ap Finished same

full_is : (seen : List Bool) (o n : Named) → if_full seen o ≡ Ok n
    → (o ≡ n) × (is_full seen o.marker ≡ true)
full_is seen o n e = go (is_full seen o.marker) refl e
  where
    go : (b : Bool) → is_full seen o.marker ≡ b → cond b (Ok o) (Err (Refused code.NoMarker))
        ≡ Ok n → (o ≡ n) × (is_full seen o.marker ≡ true)
    go true is e = (cc, is)
    go false is e = absurd cc

if_is : (seen : List Bool) (o : Option Named) (n : Named) → if_shown seen o ≡ Ok n
    → (o ≡ Some n) × (is_full seen n.marker ≡ true)
if_is seen None n e = absurd cc
if_is seen (Some m) n e =
    let both = full_is seen m n e in
    (ap Some both.0, ap (λ (x : Named). is_full seen x.marker) (sym both.0) ∙ both.1)

pub shown_is : PlacesAreOfKeys → (policy : Policy) (connection : ℕ) (f : Checked)
    (name : MarkerName)
    (n : Named)
    → full_marker policy connection f name ≡ Ok n
    → IsShownInFull policy connection f name n.place n.marker
unfolding full_marker
shown_is keys policy connection f name n e =
    let rules = f.planned.snapshot.deck.rules in
    let both =
    if_is (seen_by policy connection f.planned.snapshot.shelf) (named_in rules f.book name) n e in
    let is = named_is keys rules f.book name n both.0 in
    record { rule = is.rule; at = is.at; of_rule = is.of_rule; named = is.named; full = both.1 }

passes_is : (told : Result (Unit {0}) WaiverFault) (x : Unit {0}) → passes told ≡ Ok x
    → told ≡ Ok tt
passes_is (Ok tt) x e = refl
passes_is (Err Known) x e = absurd cc
passes_is (Err NoWaiver) x e = absurd cc
passes_is (Err (Submitter cell)) x e = absurd cc
passes_is (Err Asker) x e = absurd cc

unasked_is : (waiver : Option Waiver) → ask_test waiver ≡ Ok tt → waiver ≡ None
unasked_is None e = refl
unasked_is (Some waiver) e = absurd cc

-- ---- accepted requests

-- a table's marker is full, and the rest of its parts pass
record IsNamed (policy : Policy) (run : Run) (connection : ℕ) (name : MarkerName)
    (rest : Checked → Named → Result ByUser SignOffEnding) (by : ByUser) : Type 0 where
  f : Checked
  n : Named
  phase : run.phase ≡ Finished f
  shown : IsShownInFull policy connection f name n.place n.marker
  later : rest f n ≡ Ok by

named_by : PlacesAreOfKeys → (policy : Policy) (run : Run) (connection : ℕ) (name : MarkerName)
    (rest : Checked → Named → Result ByUser SignOffEnding) (by : ByUser)
    → (finished run >>= λ f. full_marker policy connection f name >>= λ n. rest f n) ≡ Ok by
    → IsNamed policy run connection name rest by
named_by keys policy run connection name rest by e =
    let f = passed (finished run) _ by e in
    let n = passed (full_marker policy connection f.0 name) _ by f.2 in
    record {
      f = f.0;
      n = n.0;
      phase = finished_is _ run.phase f.0 f.1;
      shown = shown_is keys policy connection f.0 name n.0 n.1;
      later = n.2;
    }

pub asked_are_shown : PlacesAreOfKeys → AskedAreShown
unfolding waive_row
asked_are_shown keys policy wafer run waivers connection name change lines e =
    let by =
    changed Asked (λ by. []) (waive_row policy run waivers connection name) change lines e in
    let p = named_by keys policy run connection name _ by.0 by.1 in
    let unasked = passed (passes (ask_test (waiver_at waivers p.n.place))) _ by.0 p.later in
    let is : by.0 ≡ by_user policy connection p.n = cc in
    record {
      checked = p.f;
      place = p.n.place;
      marker = p.n.marker;
      finished = p.phase;
      shown = p.shown;
      free = unasked_is (waiver_at waivers p.n.place)
          (passes_is (ask_test (waiver_at waivers p.n.place)) unasked.0 unasked.1);
      left = ap (waivers_after waivers) (sym by.2 ∙ ap Asked is);
    }

pub signers_apart : PlacesAreOfKeys → SignersAreApart → SignersStandApart
unfolding sign_row signed
signers_apart keys apart policy wafer run waivers connection name change lines e =
    let by =
    changed Signed (λ by. []) (sign_row policy run waivers connection name) change lines e in
    let p = named_by keys policy run connection name _ by.0 by.1 in
    let user = user_of policy connection in
    let test = sign_test p.f.planned.snapshot.shelf p.n.marker.met user
    (waiver_at waivers p.n.place) in
    let free = passed (passes test) _ by.0 p.later in
    let is : by.0 ≡ by_user policy connection p.n = cc in
    let after = with_signer waivers p.n.place user in
    record {
      checked = p.f;
      place = p.n.place;
      marker = p.n.marker;
      finished = p.phase;
      shown = p.shown;
      may = (apart p.f.planned.snapshot.shelf waivers after p.n.place p.n.marker.met user
          (ap (λ t. if_passed t after) (passes_is test free.0 free.1))).0;
      left = ap (waivers_after waivers) (sym by.2 ∙ ap Signed is);
    }
