-- The lines of a listing of waivers are of full markers.
use Rattle.std.proofs.Common.{[], ◌≡◌, ℕ, suc, ◌+◌, Bool, true, false, cond, List, ◌∷◌, slice_get, Option, None, Some, refl, subst, arith}
use Rattle.std.specs.Prelude.{All}
use Rattle.std.proofs.lemmas.List.Elements.{All-nil, All-cons, All-append, All-map}
use Rattle.mpw_laws.proofs.RowParts.{if_ok, if_listed}
use Rattle.mpw_deck.specs.declared.rule.Rule.{Rule}
use Rattle.mpw_markers.specs.declared.marker.Marker.{Marker}
use Rattle.mpw_replies.specs.Listing.{Listed, stored}
use Rattle.mpw_replies.specs.Sight.{is_full}
use Rattle.mpw_access.specs.Seen.{seen_by}
use Rattle.mpw_replies.specs.declared.reply.Line.{Line}
use Rattle.mpw_run.specs.declared.phase.Checked.{Checked}
use Rattle.mpw_run.specs.declared.phase.Phase.TheVariants.{Finished}
use Rattle.mpw_rbac.specs.Policy.{Policy}
use Rattle.mpw_run.specs.Step.{Run}
use Rattle.mpw_waiver.specs.declared.waiver.Waiver.{Waiver}
use Rattle.mpw_waiver.specs.Waivers.{waiver_at}
use Rattle.mpw_laws.specs.Readable.{lines_of}
use Rattle.mpw_laws.specs.SignOffLaws.{IsTold, ToldAreShown}
use Rattle.mpw_signoff.specs.Named.{name_for}
use Rattle.mpw_signoff.specs.SigningOff.{finished, waiver_lines}
use Rattle.mpw_signoff.specs.WaiverLines.{waiver_line, rule_line, marker_line, shown_line, lines_from}
use Rattle.mpw_laws.proofs.Shown.{finished_is}

-- what holds of the line of each full marker with a waiver holds of all lines
module _ (P : Line → Type 0) (rules : List Rule) (seen : List Bool) (waivers : List (Option Waiver))
    (whole : List Marker) where
  abbrev Each : Type 0
  Each =
      (place : ℕ) (m : Marker) (waiver : Waiver) (rule : Rule) → slice_get whole place ≡ Some m
      → is_full seen m ≡ true
      → waiver_at waivers place ≡ Some waiver → slice_get rules m.key.rule ≡ Some rule
      → P (waiver_line (name_for rule.name m) waiver.asker waiver.signer)

  of_rule : Each → (place : ℕ) (m : Marker) (waiver : Waiver) → slice_get whole place ≡ Some m
      → is_full seen m ≡ true → waiver_at waivers place ≡ Some waiver
      → (o : Option Rule) → slice_get rules m.key.rule ≡ o → All P (rule_line m waiver o)
  of_rule each place m waiver at full is None e = All-nil P
  of_rule each place m waiver at full is (Some rule) e =
      All-cons P (waiver_line (name_for rule.name m) waiver.asker waiver.signer) []
      (each place m waiver rule at full is e) (All-nil P)

  of_marker : Each → (place : ℕ) (m : Marker) → slice_get whole place ≡ Some m
      → is_full seen m ≡ true
      → (o : Option Waiver) → waiver_at waivers place ≡ o → All P (marker_line rules m o)
  of_marker each place m at full None e = All-nil P
  of_marker each place m at full (Some waiver) e = of_rule each place m waiver at full e
      (slice_get rules m.key.rule) refl

  of_shown : Each → (place : ℕ) (m : Marker) → slice_get whole place ≡ Some m
      → (b : Bool) → is_full seen m ≡ b
      → All P (cond b (marker_line rules m (waiver_at waivers place)) [])
  of_shown each place m at true full = of_marker each place m at full (waiver_at waivers place) refl
  of_shown each place m at false full = All-nil P

  behind : (place k : ℕ) (m : Marker) → slice_get whole (place + suc k) ≡ Some m
      → slice_get whole ((place + 1) + k) ≡ Some m
  behind place k m at = subst (λ n. slice_get whole n ≡ Some m)
      (let e : place + suc k ≡ (place + 1) + k = omega arith in e) at

  here : (place : ℕ) (m : Marker) → slice_get whole (place + 0) ≡ Some m
      → slice_get whole place ≡ Some m
  here place m at = subst (λ n. slice_get whole n ≡ Some m)
      (let e : place + 0 ≡ place = omega arith in e) at

  from : Each → (place : ℕ) (book : List Marker)
      → ((k : ℕ) (m : Marker) → slice_get book k ≡ Some m → slice_get whole (place + k) ≡ Some m)
      → All P (lines_from rules seen waivers place book)
  unfolding lines_from
  from each place [] at = All-nil P
  from each place (m ∷ book) at =
      All-append P (shown_line rules seen m (waiver_at waivers place))
      (lines_from rules seen waivers (place + 1) book)
      (of_shown each place m (here place m (at 0 m refl)) (is_full seen m) refl)
      (from each (place + 1) book (λ k n e. behind place k n (at (suc k) n e)))

  pub of_lines : Each → All P (lines_from rules seen waivers 0 whole)
  of_lines each = from each 0 whole (λ k m e. subst (λ n. slice_get whole n ≡ Some m)
      (let same : k ≡ 0 + k = omega arith in same) e)

-- ---- the listing

abbrev AreTold : Policy → Run → List (Option Waiver) → ℕ → List Listed → Type 0
AreTold policy run waivers connection lines =
    (f : Checked) × (run.phase ≡ Finished f) × All (IsTold policy connection f waivers) lines

pub told_are_shown : ToldAreShown
told_are_shown policy wafer run waivers connection =
    let Told : List Listed → Type 0 = AreTold policy run waivers connection in
    if_listed (λ done. Told (lines_of done)) _ (finished run) (if_ok _ (finished run) (λ f passed.
    let seen = seen_by policy connection f.planned.snapshot.shelf in
    let all =
    of_lines (λ l. IsTold policy connection f waivers (stored l)) f.planned.snapshot.deck.rules
    seen waivers f.book
    (λ place m waiver rule at full is of. record {
      place = place;
      marker = m;
      name = name_for rule.name m;
      waiver = waiver;
      shown = record { rule = rule; at = at; of_rule = of; named = refl; full = full };
      is = is;
      line = refl;
    }) in (
      f,
      finished_is _ run.phase f passed,
      All-map (IsTold policy connection f waivers) stored
          (waiver_lines policy connection f waivers) all,
    )))
