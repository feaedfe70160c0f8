-- A wafer whose verdict is clean: each marker has a waiver whose signer is apart from it.
use Rattle.std.proofs.Common.{◌≡◌, ℕ, zero, suc, ◌<◌, true, List, [], ◌∷◌, length, slice_get, Option, None, Some, refl, sym, ap, ◌∙◌, arith}
use Rattle.std.proofs.lemmas.Option.{none-some, same_Some}
use Rattle.mpw_job.specs.Layout.{AreLayoutMarkers}
use Rattle.mpw_markers.specs.declared.marker.Marker.{Marker}
use Rattle.mpw_roles.specs.Hierarchy.{Name}
use Rattle.mpw_run.specs.declared.phase.Checked.{Checked}
use Rattle.mpw_run.specs.declared.phase.Phase.{Phase}
use Rattle.mpw_run.specs.declared.phase.Phase.TheVariants.{Finished}
use Rattle.mpw_run.specs.Step.{book_size}
use Rattle.mpw_laws.specs.SignOffLaws.{IsSignedOff}
use Rattle.mpw_waiver.specs.declared.waiver.Waiver.{Waiver}
use Rattle.mpw_waiver.specs.Waivers.{is_signed, waiver_at}
use Rattle.mpw_events.specs.Step.{State}
use Rattle.mpw_secrecy.specs.Apart.{AreSignedApart, IsSignedApart}
use Rattle.mpw_secrecy.specs.Clean.{IsWaived, MayStart}

within : {X : Type 0} (xs : List X) (n : ℕ) (x : X) → slice_get xs n ≡ Some x → n < length xs
within [] n x e = absurd (none-some x e)
within (y ∷ xs) zero x e = omega arith
within (y ∷ xs) (suc n) x e = let h = within xs n x e in omega (arith, h)

same_checked : (a b : Checked) → Finished a ≡ Finished b → a ≡ b
same_checked a b e = cc

waived_by : (phase : Phase) (f : Checked) (place : ℕ) (marker : Marker) (waiver : Waiver)
    (signer : Name)
    → phase ≡ Finished f → slice_get f.book place ≡ Some marker → waiver.signer ≡ Some signer
    → IsSignedApart phase place waiver signer
    → IsWaived f.planned.snapshot.shelf marker (Some waiver)
waived_by phase f place marker waiver signer finished at by a =
    let run : a.checked ≡ f = same_checked a.checked f (sym a.finished ∙ finished) in
    let here : Some a.marker ≡ Some marker = sym a.at ∙ ap (λ (c : Checked). slice_get c.book place)
    run ∙ at in
    let same : a.marker ≡ marker = same_Some a.marker marker here in
    record {
      waiver = waiver;
      signer = signer;
      is = refl;
      signed = by;
      apart = rw (sym run, sym same) a.apart;
    }

waived_at : (phase : Phase) (f : Checked) (place : ℕ) (marker : Marker) (found : Option Waiver)
    → phase ≡ Finished f → slice_get f.book place ≡ Some marker → is_signed found ≡ true
    → ((waiver : Waiver) (signer : Name) → found ≡ Some waiver → waiver.signer ≡ Some signer
    → IsSignedApart phase place waiver signer)
    → IsWaived f.planned.snapshot.shelf marker found
waived_at phase f place marker None finished at signed apart = absurd (let e = signed in cc)
waived_at phase f place marker (Some waiver) finished at signed apart = go waiver.signer refl
  where
    go : (by : Option Name) → waiver.signer ≡ by
        → IsWaived f.planned.snapshot.shelf marker (Some waiver)
    go None e = absurd (let s = signed in cc)
    go (Some signer) e = waived_by phase f place marker waiver signer finished at e
        (apart waiver signer refl e)

pub may_start : (s : State) → ((f : Checked) → s.run.phase ≡ Finished f
    → AreLayoutMarkers f.planned.snapshot f.book)
    → length s.waivers ≡ book_size s.run.phase → AreSignedApart s
    → IsSignedOff s.wafer s.run s.waivers → MayStart s
may_start s sound places apart off = record {
  checked = off.checked;
  finished = off.finished;
  deck = off.deck;
  roots = off.roots;
  markers = sound off.checked off.finished;
  waived = λ place marker at. waived_at s.run.phase off.checked place marker
      (waiver_at s.waivers place) off.finished at
      (off.signed (places ∙ ap book_size off.finished) place
      (within off.checked.book place marker at)) (apart place);
}
