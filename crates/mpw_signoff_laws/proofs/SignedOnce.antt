-- A waiver that was asked for and signed stays so.
use Rattle.std.proofs.Common.{◌≡◌, ℕ, List, [], Option, None, Some, Ok, sym, ap, subst, ◌∙◌}
use Rattle.mpw_rbac.specs.Policy.{Policy}
use Rattle.mpw_rbac.specs.Rows.{user_of}
use Rattle.mpw_requests.specs.declared.sign_off.MarkerName.{MarkerName}
use Rattle.mpw_requests.specs.declared.sign_off.SignOffRequest.{SignOffRequest}
use Rattle.mpw_requests.specs.declared.sign_off.SignOffRequest.TheVariants as ask
use Rattle.mpw_replies.specs.Listing.{Listed}
use Rattle.mpw_replies.specs.declared.row.Done.TheVariants.{Changes}
use Rattle.mpw_replies.proofs.RowParts.{changed, listing_changes_nothing}
use Rattle.mpw_placings.specs.declared.wafer.Wafer.{Wafer}
use Rattle.mpw_run.specs.Step.{Run}
use Rattle.mpw_waiver.specs.declared.waiver.Waiver.{Waiver}
use Rattle.mpw_waiver.specs.Waivers.{waiver_at, with_asker, signed_by, with_signer}
use Rattle.mpw_signoff.specs.declared.rows.ByUser.{ByUser}
use Rattle.mpw_signoff.specs.declared.rows.WaiverChange.{WaiverChange}
use Rattle.mpw_signoff.specs.declared.rows.WaiverChange.TheVariants.{Asked, Signed}
use Rattle.mpw_signoff.specs.SigningOff.{finished, waive_row, sign_row, row_of, waivers_after}
use Rattle.mpw_signoff_laws.specs.SignedOnce.{SignaturesStay, IsAskedBy, AskersStay}
use Rattle.mpw_signoff_laws.proofs.Places.{at_within, put_same, put_other, Same, same_place}
use Rattle.mpw_signoff_laws.proofs.Passing.{Unsigned, waive_passed, sign_passed, asks_none, signs_unsigned}

-- ---- what the change of any request leaves

not_none : (o : Option Waiver) (waiver : Waiver) → o ≡ None → o ≡ Some waiver → ⊥
not_none o waiver a b = let e = sym a ∙ b in cc

module _ (policy : Policy) (run : Run) (waivers : List (Option Waiver)) (connection : ℕ)
    (name : MarkerName) (place : ℕ) (waiver : Waiver)
    (there : waiver_at waivers place ≡ Some waiver) where
  -- a request for a waiver leaves the existing ones unchanged
  waive_leaves : (by : ByUser) → waive_row policy run waivers connection name ≡ Ok by
      → waiver_at (with_asker waivers by.place by.user) place ≡ Some waiver
  waive_leaves by is =
      let p = waive_passed policy run waivers connection name by is in
      let none = asks_none (waiver_at waivers p.n.place) p.free in
      let at : by.place ≡ p.n.place = ap (λ (b : ByUser). b.place) p.is in
      go p.n.place at none
    where
      go : (k : ℕ) → by.place ≡ k → waiver_at waivers k ≡ None
          → waiver_at (with_asker waivers by.place by.user) place ≡ Some waiver
      go k at none = by_place (same_place by.place place)
        where
          by_place : Same by.place place
              → waiver_at (with_asker waivers by.place by.user) place ≡ Some waiver
          by_place (Same.same e) =
              absurd (not_none (waiver_at waivers k) waiver none
              (ap (waiver_at waivers) (sym (e ∙ at)) ∙ there))
          by_place (Same.other e) =
              put_other waivers by.place place
              (Some (record { asker = by.user; signer = None })) e ∙ there

  -- a signature leaves the other waivers unchanged, and its own was unsigned
  data Leaves (by : ByUser) : Type 0 where
    elsewhere : waiver_at (with_signer waivers by.place by.user) place ≡ Some waiver → Leaves by
    here : waiver.signer ≡ None
        → waiver_at (with_signer waivers by.place by.user) place
        ≡ Some (record { asker = waiver.asker; signer = Some by.user }) → Leaves by

  sign_leaves : (by : ByUser) → sign_row policy run waivers connection name ≡ Ok by → Leaves by
  sign_leaves by is =
      let p = sign_passed policy run waivers connection name by is in
      let u =
      signs_unsigned p.f.planned.snapshot.shelf p.n.marker.met (user_of policy connection)
      (waiver_at waivers p.n.place) p.free in
      go p.n.place (ap (λ (b : ByUser). b.place) p.is) u
    where
      go : (k : ℕ) → by.place ≡ k → Unsigned (waiver_at waivers k) → Leaves by
      go k at u = by_place (same_place by.place place)
        where
          by_place : Same by.place place → Leaves by
          by_place (Same.same e) =
              let mine : waiver_at waivers k ≡ Some waiver =
              ap (waiver_at waivers) (sym (e ∙ at)) ∙ there in
              let one : u.waiver ≡ waiver = let both = sym u.is ∙ mine in cc in
              let theirs : waiver_at waivers by.place ≡ Some waiver =
              ap (waiver_at waivers) (sym e) ∙ there in
              Leaves.here (ap (λ (w : Waiver). w.signer) (sym one) ∙ u.unsigned)
              (ap (waiver_at (with_signer waivers by.place by.user)) e
              ∙ put_same waivers by.place (signed_by by.user (waiver_at waivers by.place))
              (at_within waivers by.place waiver theirs) ∙ ap (signed_by by.user) theirs)
          by_place (Same.other e) =
              Leaves.elsewhere
              (put_other waivers by.place place
              (signed_by by.user (waiver_at waivers by.place)) e ∙ there)

-- ---- each request

abbrev MakesChange : Policy → Wafer → Run → List (Option Waiver) → ℕ → SignOffRequest → WaiverChange
    → List Listed → Type 0
MakesChange policy wafer run waivers connection request change lines =
    row_of policy wafer run waivers connection request ≡ Ok (Changes change lines)

module _ (policy : Policy) (wafer : Wafer) (run : Run) (waivers : List (Option Waiver))
    (connection : ℕ) (change : WaiverChange) (lines : List Listed) (place : ℕ) where
  abbrev after : List (Option Waiver)
  after = waivers_after waivers change

  signature_stays : (request : SignOffRequest)
      → MakesChange policy wafer run waivers connection request change lines
      → (waiver : Waiver) (signer : List ℕ)
      → waiver_at waivers place ≡ Some waiver → waiver.signer ≡ Some signer
      → waiver_at after place ≡ Some waiver
  signature_stays (ask.Waive name) is waiver signer e s =
      let c =
      changed Asked (λ by. []) (waive_row policy run waivers connection name) change lines is in
      subst (λ w. waiver_at (waivers_after waivers w) place ≡ Some waiver) c.2
      (waive_leaves policy run waivers connection name place waiver e c.0 c.1)
  signature_stays (ask.Sign name) is waiver signer e s =
      let c =
      changed Signed (λ by. []) (sign_row policy run waivers connection name) change lines is in
      subst (λ w. waiver_at (waivers_after waivers w) place ≡ Some waiver) c.2
      (by_signing c.0 (sign_leaves policy run waivers connection name place waiver e c.0 c.1))
    where
      by_signing : (by : ByUser)
          → Leaves policy run waivers connection name place waiver e by
          → waiver_at (with_signer waivers by.place by.user) place ≡ Some waiver
      by_signing by (Leaves.elsewhere k) = k
      by_signing by (Leaves.here none k) = absurd (let both = sym none ∙ s in cc)
  signature_stays ask.Waivers is waiver signer e s =
      absurd (listing_changes_nothing _ (finished run) change lines is)
  signature_stays ask.Verdict is waiver signer e s =
      absurd (listing_changes_nothing _ (finished run) change lines is)

  asker_stays : (request : SignOffRequest)
      → MakesChange policy wafer run waivers connection request change lines
      → (asker : List ℕ) → IsAskedBy waivers place asker → IsAskedBy after place asker
  asker_stays (ask.Waive name) is asker a =
      let c =
      changed Asked (λ by. []) (waive_row policy run waivers connection name) change lines is in
      subst (λ w. IsAskedBy (waivers_after waivers w) place asker) c.2
      (record {
        waiver = a.waiver;
        is = waive_leaves policy run waivers connection name place a.waiver a.is c.0 c.1;
        by = a.by;
      })
  asker_stays (ask.Sign name) is asker a =
      let c =
      changed Signed (λ by. []) (sign_row policy run waivers connection name) change lines is in
      subst (λ w. IsAskedBy (waivers_after waivers w) place asker) c.2
      (by_signing c.0 (sign_leaves policy run waivers connection name place a.waiver a.is c.0 c.1))
    where
      by_signing : (by : ByUser)
          → Leaves policy run waivers connection name place a.waiver a.is by
          → IsAskedBy (with_signer waivers by.place by.user) place asker
      by_signing by (Leaves.elsewhere k) = record { waiver = a.waiver; is = k; by = a.by }
      by_signing by (Leaves.here none k) = record {
        waiver = record { asker = a.waiver.asker; signer = Some by.user };
        is = k;
        by = a.by;
      }
  asker_stays ask.Waivers is asker a =
      absurd (listing_changes_nothing _ (finished run) change lines is)
  asker_stays ask.Verdict is asker a =
      absurd (listing_changes_nothing _ (finished run) change lines is)

pub signatures_stay : SignaturesStay
signatures_stay policy wafer run waivers connection request change lines is place =
    signature_stays policy wafer run waivers connection change lines place request is

pub askers_stay : AskersStay
askers_stay policy wafer run waivers connection request change lines is place =
    asker_stays policy wafer run waivers connection change lines place request is
