-- What holds after any requests.
use Rattle.std.proofs.Common.{◌≡◌, ℕ, List, [], ◌∷◌, zero, suc, length, Option, None, Some, Ok, refl, sym, ap, ◌∙◌, inl, inr}
use Rattle.std.specs.Prelude.{slice_set}
use Rattle.std.proofs.lemmas.List.{length-replicate}
use Rattle.mpw_hier.specs.declared.submission.Submission.{Submission}
use Rattle.mpw_waiver.specs.declared.waiver.Waiver.{Waiver}
use Rattle.mpw_laws.specs.WaiverLaws.{PutOrBefore, NoneAtFirst, IsApart, AreWaiversReached, none, ask, sign}
use Rattle.mpw_waiver.specs.Signing.{ask_test}
use Rattle.mpw_laws.specs.Signing.{asked}
use Rattle.mpw_waiver.specs.Waivers.{waiver_at, with_asker, with_signer, signed_by}
use Rattle.mpw_laws.proofs.Signed.{passed_is, signers_apart}

-- ---- entries

length-put : (waivers : List (Option Waiver)) (place : ℕ) (o : Option Waiver)
    → length (slice_set waivers place o) ≡ length waivers
length-put [] place o = refl
length-put (w ∷ waivers) zero o = refl
length-put (w ∷ waivers) (suc place) o = ap suc (length-put waivers place o)

pub put_or_before : PutOrBefore
put_or_before [] at place o waiver e = inr e
put_or_before (w ∷ waivers) zero zero o waiver e = inl (refl, e)
put_or_before (w ∷ waivers) zero (suc place) o waiver e = inr e
put_or_before (w ∷ waivers) (suc at) zero o waiver e = inr e
put_or_before (w ∷ waivers) (suc at) (suc place) o waiver e =
    elim (put_or_before waivers at place o waiver e) [
      | inl here ↦ inl (ap suc here.0, here.1)
      | inr before ↦ inr before
    ]

pub none_at : NoneAtFirst
none_at zero place waiver e = absurd cc
none_at (suc size) zero waiver e = absurd cc
none_at (suc size) (suc place) waiver e = none_at size place waiver e

-- ---- waivers that requests lead to

after_ask : (waivers after : List (Option Waiver)) (place : ℕ) (user : List ℕ)
    → asked waivers place user ≡ Ok after
    → after ≡ with_asker waivers place user
unfolding asked
after_ask waivers after place user e =
    (passed_is (ask_test (waiver_at waivers place)) (with_asker waivers place user) after e).1

pub reached-size : (shelf : List Submission) (met : ℕ → List ℕ) (size : ℕ)
    (waivers : List (Option Waiver))
    → AreWaiversReached shelf met size waivers → length waivers ≡ size
reached-size shelf met size waivers none = length-replicate size None
reached-size shelf met size waivers (ask {waivers = before} place user reached e) =
    ap length (after_ask before waivers place user e) ∙ length-put before place _
    ∙ reached-size shelf met size before reached
reached-size shelf met size waivers (sign {waivers = before} place user reached e) =
    ap length (signers_apart shelf before waivers place (met place) user e).1
    ∙ length-put before place _ ∙ reached-size shelf met size before reached

-- the waiver that was signed now
signed-is : (o : Option Waiver) (before waiver : Waiver) (user signer : List ℕ) → o ≡ Some before
    → signed_by user o ≡ Some waiver
    → waiver.signer ≡ Some signer → (user ≡ signer) × (waiver.asker ≡ before.asker)
signed-is o before waiver user signer is now e =
    let made : Some (record { asker = before.asker; signer = Some user }) ≡ Some waiver =
    sym (ap (signed_by user) is) ∙ now in
    let parts : record { asker = before.asker; signer = Some user } ≡ waiver = cc in
    let same : Some user ≡ Some signer = ap (λ w. w.signer) parts ∙ e in
    (cc, sym (ap (λ w. w.asker) parts))

pub reached-apart : (shelf : List Submission) (met : ℕ → List ℕ) (size : ℕ)
    (waivers : List (Option Waiver)) (place : ℕ) (waiver : Waiver) (signer : List ℕ)
    → AreWaiversReached shelf met size waivers → waiver_at waivers place ≡ Some waiver
    → waiver.signer ≡ Some signer
    → IsApart shelf (met place) signer waiver
reached-apart shelf met size waivers place waiver signer none at is =
    absurd (none_at size place waiver at)
reached-apart shelf met size waivers place waiver signer
    (ask {waivers = before} where_asked user reached e) at is =
    let there : waiver_at (with_asker before where_asked user) place ≡ Some waiver =
    ap (λ ws. waiver_at ws place) (sym (after_ask before waivers where_asked user e)) ∙ at in
    elim (put_or_before before where_asked place _ waiver there) [
      | inl here ↦ absurd (let new : record { asker = user; signer = None } ≡ waiver = cc in
          let none : None ≡ Some signer = ap (λ w. w.signer) new ∙ is in cc)
      | inr old ↦ reached-apart shelf met size before place waiver signer reached old is
    ]
reached-apart shelf met size waivers place waiver signer
    (sign {waivers = before} where_signed user reached e) at is =
    let law = signers_apart shelf before waivers where_signed (met where_signed) user e in
    let there : waiver_at (with_signer before where_signed user) place ≡ Some waiver =
    ap (λ ws. waiver_at ws place) (sym law.1) ∙ at in
    elim (put_or_before before where_signed place _ waiver there) [
      | inl here ↦
          let now = signed-is (waiver_at before where_signed) law.0.waiver waiver user signer
          law.0.is here.1 is in
          record {
            asker = λ same. law.0.apart.asker (sym now.1 ∙ same ∙ sym now.0);
            submitter = λ cell own. law.0.apart.submitter cell (rw (here.0, now.0) own);
          }
      | inr old ↦ reached-apart shelf met size before place waiver signer reached old is
    ]
