-- In every state the signer of each signed waiver neither asked for it nor submitted what its marker touches.
use Rattle.std.proofs.Common.{◌≡◌, ◌∙◌, ℕ, zero, suc, ◌⊎◌, inl, inr, List, [], ◌∷◌, length, slice_get, slice_set, Option, None, Some, Ok, refl, sym, ap, subst}
use Rattle.std.proofs.lemmas.Option.{none-some, same_Some}
use Rattle.mpw_hier.specs.declared.submission.Submission.{Submission}
use Rattle.mpw_roles.specs.Hierarchy.{Name}
use Rattle.mpw_rbac.specs.Policy.{Policy}
use Rattle.mpw_rbac.specs.Rows.{user_of}
use Rattle.mpw_requests.specs.declared.sign_off.MarkerName.{MarkerName}
use Rattle.mpw_requests.specs.declared.sign_off.SignOffRequest.{SignOffRequest}
use Rattle.mpw_requests.specs.declared.sign_off.SignOffRequest.TheVariants as sign_ask
use Rattle.mpw_replies.specs.Listing.{Listed}
use Rattle.mpw_replies.proofs.RowParts.{listing_changes_nothing}
use Rattle.mpw_replies.specs.declared.row.Done.TheVariants.{Changes}
use Rattle.mpw_run.specs.declared.phase.Phase.{Phase}
use Rattle.mpw_run.specs.declared.phase.Phase.TheVariants.{Idle, Cutting, Checking, Finished}
use Rattle.mpw_run.specs.Run.{Planned, Checks}
use Rattle.mpw_run.specs.Step.{Run, restarted_phase}
use Rattle.mpw_laws.specs.SignOffLaws.{AskedAreShown, IsRightlySigned, SignersStandApart}
use Rattle.mpw_signoff.specs.SigningOff as signing
use Rattle.mpw_signoff.specs.declared.rows.WaiverChange.{WaiverChange}
use Rattle.mpw_waiver.specs.declared.waiver.Waiver.{Waiver}
use Rattle.mpw_laws.specs.WaiverLaws.{IsApart}
use Rattle.mpw_waiver.specs.Waivers.{none_asked, signed_by, waiver_at, with_asker, with_signer}
use Rattle.mpw_events.specs.Step.{State}
use Rattle.mpw_laws.proofs.WaivedLemmas.{waived-history}
use Rattle.mpw_secrecy.specs.Apart.{EveryStateIsSignedApart, IsSignedApart}

-- the waivers of a run in that phase
abbrev SignedIn : Phase → List (Option Waiver) → Type 0
SignedIn phase waivers = (place : ℕ) (waiver : Waiver) (signer : Name)
    → waiver_at waivers place ≡ Some waiver → waiver.signer ≡ Some signer
    → IsSignedApart phase place waiver signer

abbrev Fit : State → Type 0
Fit s = SignedIn s.run.phase s.waivers

no_waiver : (place : ℕ) (waiver : Waiver) → waiver_at [] place ≡ Some waiver → ⊥
no_waiver place waiver e = none-some waiver e

none_yet : (size place : ℕ) (waiver : Waiver) → waiver_at (none_asked size) place ≡ Some waiver → ⊥
none_yet zero place waiver e = none-some waiver e
none_yet (suc size) zero waiver e = none-some waiver e
none_yet (suc size) (suc place) waiver e = none_yet size place waiver e

-- without waivers, and if the run isn't finished, whatever the run is now
of_none : (phase : Phase) → SignedIn phase []
of_none phase place waiver signer is by = absurd (no_waiver place waiver is)

of_new : (phase : Phase) (size : ℕ) → SignedIn phase (none_asked size)
of_new phase size place waiver signer is by = absurd (none_yet size place waiver is)

of_unfinished : (phase : Phase) (c : Checks) (waivers : List (Option Waiver))
    → SignedIn (Checking c) waivers → SignedIn phase waivers
of_unfinished phase c waivers fit place waiver signer is by =
    absurd (let e = (fit place waiver signer is by).finished in cc)

of_cutting : (phase : Phase) (planned : Planned) (waivers : List (Option Waiver))
    → SignedIn (Cutting planned) waivers → SignedIn phase waivers
of_cutting phase planned waivers fit place waiver signer is by =
    absurd (let e = (fit place waiver signer is by).finished in cc)

of_restart : (phase : Phase) (waivers : List (Option Waiver)) → SignedIn phase waivers
    → SignedIn (restarted_phase phase) waivers
of_restart phase waivers fit place waiver signer is by =
    let f = fit place waiver signer is by in
    record {
      checked = f.checked;
      marker = f.marker;
      finished = ap restarted_phase f.finished;
      at = f.at;
      apart = f.apart;
    }

-- ---- waivers that are put

put_or_before : (waivers : List (Option Waiver)) (at place : ℕ) (o : Option Waiver)
    (waiver : Waiver) → waiver_at (slice_set waivers at o) place ≡ Some waiver
    → ((at ≡ place) × (o ≡ Some waiver)) ⊎ (waiver_at waivers place ≡ Some waiver)
put_or_before [] at place o waiver e = inr e
put_or_before (w ∷ waivers) zero zero o waiver e = inl (refl, e)
put_or_before (w ∷ waivers) zero (suc place) o waiver e = inr e
put_or_before (w ∷ waivers) (suc at) zero o waiver e = inr e
put_or_before (w ∷ waivers) (suc at) (suc place) o waiver e =
    elim (put_or_before waivers at place o waiver e) [
      | inl here ↦ inl (ap suc here.0, here.1)
      | inr before ↦ inr before
    ]

of_asked : (phase : Phase) (waivers : List (Option Waiver)) (at : ℕ) (asker : Name)
    → SignedIn phase waivers → SignedIn phase (with_asker waivers at asker)
of_asked phase waivers at asker fit place waiver signer is by =
    let made : Waiver = record { asker = asker; signer = None } in
    elim (put_or_before waivers at place (Some made) waiver is) [
      | inl here ↦ absurd (none-some signer
          (ap (λ (w : Waiver). w.signer) (same_Some made waiver here.1) ∙ by))
      | inr before ↦ fit place waiver signer before by
    ]

abbrev signed_waiver : Waiver → Name → Waiver
signed_waiver before user = record { asker = before.asker; signer = Some user }

of_signed : (policy : Policy) (run : Run) (waivers : List (Option Waiver)) (connection : ℕ)
    (name : MarkerName) (now : List (Option Waiver))
    → (s : IsRightlySigned policy run waivers connection name now) → SignedIn run.phase waivers
    → SignedIn run.phase (with_signer waivers s.place (user_of policy connection))
of_signed policy run waivers connection name now s fit place waiver signer is by =
    let user = user_of policy connection in
    elim (put_or_before waivers s.place place (signed_by user (waiver_at waivers s.place)) waiver
    is) [
      | inl here ↦
          let shelf : List Submission = s.checked.planned.snapshot.shelf in
          let made : Waiver = signed_waiver s.may.waiver user in
          let same : made ≡ waiver = same_Some made waiver (sym (ap (signed_by user) s.may.is)
          ∙ here.1) in
          let who : user ≡ signer = same_Some user signer (ap (λ (w : Waiver). w.signer) same
          ∙ by) in
          let apart : IsApart shelf s.marker.met user made =
          record { asker = s.may.apart.asker; submitter = s.may.apart.submitter } in
          record {
            checked = s.checked;
            marker = s.marker;
            finished = s.finished;
            at = subst (λ k. slice_get s.checked.book k ≡ Some s.marker) here.0 s.shown.at;
            apart = subst (λ w. IsApart shelf s.marker.met signer w) same
                (subst (λ u. IsApart shelf s.marker.met u made) who apart);
          }
      | inr before ↦ fit place waiver signer before by
    ]

-- ---- sign-off requests

module _ (shown : AskedAreShown) (apart : SignersStandApart) where
  fit-sign : (s : State) (connection : ℕ) (request : SignOffRequest) (change : WaiverChange)
      (lines : List Listed)
      → signing.row_of s.policy s.wafer s.run s.waivers connection request
      ≡ Ok (Changes change lines)
      → Fit s → SignedIn s.run.phase (signing.waivers_after s.waivers change)
  fit-sign s connection (sign_ask.Waive name) change lines e fit =
      let is = shown s.policy s.wafer s.run s.waivers connection name change lines e in
      subst (SignedIn s.run.phase) (sym is.left)
      (of_asked s.run.phase s.waivers is.place (user_of s.policy connection) fit)
  fit-sign s connection (sign_ask.Sign name) change lines e fit =
      let is = apart s.policy s.wafer s.run s.waivers connection name change lines e in
      subst (SignedIn s.run.phase) (sym is.left)
      (of_signed s.policy s.run s.waivers connection name _ is fit)
  fit-sign s connection sign_ask.Waivers change lines e fit =
      absurd (listing_changes_nothing _ (signing.finished s.run) change lines e)
  fit-sign s connection sign_ask.Verdict change lines e fit =
      absurd (listing_changes_nothing _ (signing.finished s.run) change lines e)

  -- ---- every state

  pub signers_apart : EveryStateIsSignedApart
  signers_apart officer digest calls =
      waived-history SignedIn (of_none Idle) (λ planned. of_none (Cutting planned))
      (λ planned c waivers h. of_cutting (Checking c) planned waivers h)
      (λ c c' waivers h. of_unfinished (Checking c') c waivers h)
      (λ f. of_new (Finished f) (length f.book)) of_restart fit-sign officer digest calls
