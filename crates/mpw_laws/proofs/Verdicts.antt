-- The verdict `clean`.
use Rattle.std.proofs.Common.{◌≡◌, ◌∙◌, ◌==◌, ◌<◌, ℕ, Bool, true, false, cond, List, [], ◌∷◌, length, Option, None, Some, IfOk, refl, sym, ap, subst}
use Rattle.std.specs.Prelude.{All}
use Rattle.std.specs.Option.{option_flatten}
use Rattle.std.proofs.lemmas.Bool.Decides.{Decides-eqb}
use Rattle.std.proofs.lemmas.Option.{slice_get-get_or}
use Rattle.mpw_laws.proofs.RowParts.{if_ok, if_listed, if_weaker}
use Rattle.mpw_deck.specs.Decks.{Deck}
use Rattle.mpw_placings.specs.declared.placement.Placement.{Placement}
use Rattle.mpw_placings.specs.Placements.{roots_of}
use Rattle.mpw_rbac.specs.Policy.{Policy}
use Rattle.mpw_replies.specs.Listing.{Listed, stored}
use Rattle.mpw_replies.specs.declared.reply.Line.{Line}
use Rattle.mpw_replies.specs.declared.reply.Line.TheVariants as line
use Rattle.mpw_run.specs.declared.phase.Checked.{Checked}
use Rattle.mpw_run.specs.Laws.{TestsAreExact}
use Rattle.mpw_run.specs.Step.{Run}
use Rattle.mpw_tiles.specs.Snapshots.{Snapshot}
use Rattle.mpw_placings.specs.declared.wafer.Wafer.{Wafer}
use Rattle.mpw_waiver.specs.declared.waiver.Waiver.{Waiver}
use Rattle.mpw_laws.specs.WaiverLaws.{NoneIsUnsigned}
use Rattle.mpw_waiver.specs.Waivers.{waiver_at, is_signed, unsigned}
use Rattle.mpw_run.specs.declared.phase.Phase.TheVariants.{Finished}
use Rattle.mpw_laws.specs.Readable.{lines_of}
use Rattle.mpw_laws.specs.SignOffLaws.{IsSignedOff, CleanIsSignedOff, SignedOffIsClean}
use Rattle.mpw_requests.specs.declared.sign_off.SignOffRequest.TheVariants as ask
use Rattle.mpw_signoff.specs.SigningOff.{finished, is_present_with, is_present, verdict_line, verdict_of, row_of}
use Rattle.mpw_laws.proofs.Shown.{finished_is}

clean_is : (present : Bool) (number : ℕ) → verdict_line present number ≡ line.Clean
    → (present ≡ true) × (number ≡ 0)
clean_is false number e = absurd cc
clean_is true number e = (refl, go (number == 0) refl e)
  where
    go : (b : Bool) → (number == 0) ≡ b → cond b line.Clean (line.Open number) ≡ line.Clean
        → number ≡ 0
    go true is e = (Decides-eqb number 0).0 is
    go false is e = absurd cc

present_is : TestsAreExact → (deck : Option Deck) (placings : List Placement) (s : Snapshot)
    → is_present_with deck placings s ≡ true
    → (deck ≡ Some s.deck) × (roots_of placings ≡ s.roots)
present_is exact None placings s e = absurd cc
present_is exact (Some deck) placings s e =
    let now : Snapshot = record { deck = deck; roots = roots_of placings; shelf = s.shelf } in
    let same : now ≡ s = (exact.snapshots now s).0 e in
    (ap (λ (x : Snapshot). Some x.deck) same, ap (λ (x : Snapshot). x.roots) same)

-- what a verdict says, and of which run
record IsVerdict (wafer : Wafer) (run : Run) (waivers : List (Option Waiver)) (lines : List Listed) :
    Type 0 where
  f : Checked
  phase : run.phase ≡ Finished f
  told : lines ≡ stored (verdict_of wafer waivers f) ∷ []

verdict_is : (policy : Policy) (wafer : Wafer) (run : Run) (waivers : List (Option Waiver))
    (connection : ℕ) → IfOk (row_of policy wafer run waivers connection ask.Verdict)
    (λ done. IsVerdict wafer run waivers (lines_of done))
verdict_is policy wafer run waivers connection =
    if_listed (λ done. IsVerdict wafer run waivers (lines_of done)) _ (finished run)
    (if_ok _ (finished run) (λ f passed.
    record { f = f; phase = finished_is _ run.phase f passed; told = refl }))

all_signed : (waivers : List (Option Waiver)) → All (λ w. is_signed w ≡ true) waivers → (place : ℕ)
    → place < length waivers
    → is_signed (waiver_at waivers place) ≡ true
all_signed waivers all place within =
    ap (λ o. is_signed (option_flatten o)) (slice_get-get_or waivers place None within)
    ∙ all place None within

one_line : (l m : Line) → stored l ∷ [] ≡ stored m ∷ [] → l ≡ m
one_line l m e = cc

pub clean_is_signed : TestsAreExact → NoneIsUnsigned → CleanIsSignedOff
clean_is_signed exact none policy wafer run waivers connection =
    if_weaker (row_of policy wafer run waivers connection ask.Verdict)
    (verdict_is policy wafer run waivers connection) (λ done v clean. signed (lines_of done) v clean)
  where
    signed : (lines : List Listed) → IsVerdict wafer run waivers lines
        → lines ≡ stored line.Clean ∷ [] → IsSignedOff wafer run waivers
    signed lines v clean =
        let c = clean_is (is_present wafer v.f.planned.snapshot) (unsigned waivers)
        (one_line _ _ (sym v.told ∙ clean)) in
        let both = present_is exact wafer.deck wafer.placings v.f.planned.snapshot c.0 in
        record {
          checked = v.f;
          finished = v.phase;
          deck = both.0;
          roots = both.1;
          signed = λ size place within. all_signed waivers ((none waivers).0 c.1) place
              (subst (λ n. place < n) (sym size) within);
        }

-- ---- the other way

present_from : TestsAreExact → (deck : Option Deck) (placings : List Placement) (s : Snapshot)
    → deck ≡ Some s.deck → roots_of placings ≡ s.roots
    → is_present_with deck placings s ≡ true
present_from exact deck placings s same roots =
    ap (λ d. is_present_with d placings s) same ∙ (exact.snapshots now s).1 whole
  where
    now : Snapshot
    now = record { deck = s.deck; roots = roots_of placings; shelf = s.shelf }

    whole : now ≡ s
    whole = λ i. record { deck = s.deck; roots = roots i; shelf = s.shelf }

same_finding : (f g : Checked) → Finished f ≡ Finished g → f ≡ g
same_finding f g e = cc

pub signed_is_clean : TestsAreExact → NoneIsUnsigned → SignedOffIsClean
signed_is_clean exact none policy wafer run waivers connection f phase deck roots signed =
    if_weaker (row_of policy wafer run waivers connection ask.Verdict)
    (verdict_is policy wafer run waivers connection) (λ done v. clean (lines_of done) v)
  where
    clean : (lines : List Listed) → IsVerdict wafer run waivers lines
        → lines ≡ stored line.Clean ∷ []
    clean lines v =
        let same : v.f ≡ f = same_finding v.f f (sym v.phase ∙ phase) in
        let present : is_present wafer v.f.planned.snapshot ≡ true =
        ap (λ (x : Checked). is_present wafer x.planned.snapshot) same
        ∙ present_from exact wafer.deck wafer.placings f.planned.snapshot deck roots in
        let one : verdict_line (is_present wafer v.f.planned.snapshot) (unsigned waivers)
        ≡ line.Clean =
        ap (λ b. verdict_line b (unsigned waivers)) present
        ∙ ap (λ n. verdict_line true n) ((none waivers).1 signed) in
        v.told ∙ ap (λ l. stored l ∷ []) one
