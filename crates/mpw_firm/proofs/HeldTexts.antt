-- What is printed about the markers that are held is what is printed about all, if those are enough.
use Rattle.std.proofs.Common.{◌≡◌, ◌∙◌, ℕ, Bool, true, false, List, [], ◌∷◌, Option, None, Some, length, refl, ap, subst}
use Rattle.mpw_firm_options.specs.declared.picture_options.Wanted.{Wanted}
use Rattle.mpw_firm.specs.Came.{listing_texts, report_texts}
use Rattle.mpw_firm.specs.Held.{AreHeld, IsFoundOf, IsOfBook, enough_listed, enough_with}
use Rattle.mpw_firm.specs.Shown.{content_of, content_with, held_listing, held_printed, held_report, limited_of, listing_by, listing_text, markers_of, printed_text, shown_of}
use Rattle.mpw_firm.specs.declared.checked.Checked.{Checked}
use Rattle.mpw_firm.specs.declared.found.Findings.{Findings}
use Rattle.mpw_firm.specs.declared.found.Held.{Held}
use Rattle.mpw_firm.specs.declared.found.Held.TheVariants as held
use Rattle.mpw_firm_listing.specs.Limited.{FirstMarkersAreListed, limited_text}
use Rattle.mpw_firm_listing.specs.Listing.{listing_text as all_text}
use Rattle.mpw_markers.specs.declared.marker.Marker.{Marker}
use Rattle.mpw_firm_outputs.specs.Counted.{counts_text, rule_counts}
use Rattle.mpw_firm_outputs.specs.Outputs.{in_file, on_output}
use Rattle.mpw_firm_report.specs.Report.{FirstMarkersHaveTheItems, full_text}

-- If all are wanted, all are held.
all_held : (h : Held) (book : List Marker) → AreHeld None h book → markers_of h ≡ book
all_held (held.All all) book are = are
all_held (held.First first) book are = absurd are

pub all_of : (rules : ℕ) (found : Findings) (book : List Marker) → IsFoundOf None rules found book
    → markers_of found.held ≡ book
all_of rules found book is = all_held found.held book is.held

-- They are enough then for whatever is wanted.
all_enough : (enough : Option ℕ) (h : Held) (book : List Marker) → AreHeld None h book
    → AreHeld enough h book
all_enough enough (held.All all) book are = are
all_enough enough (held.First first) book are = absurd are

pub all_for : (enough : Option ℕ) (rules : ℕ) (found : Findings) (book : List Marker)
    → IsFoundOf None rules found book → IsFoundOf enough rules found book
all_for enough rules found book is = record {
  held = all_enough enough found.held book is.held;
  counts = is.counts;
  all = is.all;
}

-- A picture wants all.
pub all_wanted : (picture : Option Wanted) (wanted : Wanted) (report : Option (List ℕ))
    (summary : Bool) (limit : Option ℕ) (rules : ℕ) (found : Findings) (book : List Marker)
    → picture ≡ Some wanted
    → IsFoundOf (enough_with picture report summary limit) rules found book
    → IsFoundOf None rules found book
all_wanted picture wanted report summary limit rules found book is of =
    subst (λ p. IsFoundOf (enough_with p report summary limit) rules found book) is of

-- ---- the listing

module _ (law : FirstMarkersAreListed) (c : Checked) (book : List Marker) where
  limited_same : (h : Held) (limit : ℕ) → AreHeld (Some limit) h book
      → limited_text (limited_of (shown_of c (markers_of h)) limit)
      ≡ limited_text (limited_of (shown_of c book) limit)
  limited_same (held.All all) limit are =
      ap (λ ms. limited_text (limited_of (shown_of c ms) limit)) are
  limited_same (held.First first) limit are =
      law (limited_of (shown_of c book) limit) first.items are

  listing_same : (report : Option (List ℕ)) (h : Held) (limit : Option ℕ) → c.found.now.held ≡ h
      → c.limit ≡ limit → AreHeld (enough_listed report false limit) h book
      → held_listing c limit h ≡ listing_by (shown_of c book) limit
  listing_same report (held.All all) None of by are = ap (all_text c.parts.now c.top.now c.rules.now) are
  listing_same None (held.First first) None of by are = absurd are
  listing_same (Some file) (held.First first) None of by are = absurd are
  listing_same None h (Some limit) of by are = rw (of, by) (limited_same h limit are)
  listing_same (Some file) h (Some limit) of by are = rw (of, by) (limited_same h limit are)

  printed_same : (report : Option (List ℕ)) (summary : Bool)
      → IsOfBook (enough_listed report summary c.limit) c book
      → held_printed c summary ≡ printed_text (shown_of c book) summary
  printed_same report true is =
      ap (λ counts. counts_text c.rules.now counts c.found.now.all) is.counts
      ∙ ap (counts_text c.rules.now (rule_counts (length c.rules.now) book))
      is.all
  printed_same report false is = listing_same report c.found.now.held c.limit refl refl is.held

-- ---- the report

module _ (law : FirstMarkersHaveTheItems) (c : Checked) (book : List Marker) where
  items_same : (h : Held) (limit : Option ℕ) → c.limit ≡ limit → AreHeld limit h book
      → full_text (content_with (shown_of c (markers_of h))
      (rule_counts (length c.rules.now) book))
      ≡ full_text (content_of (shown_of c book))
  items_same (held.All all) limit by are =
      ap (λ ms. full_text (content_with (shown_of c ms)
      (rule_counts (length c.rules.now) book))) are
  items_same (held.First first) None by are = absurd are
  items_same (held.First first) (Some limit) by are =
      law (content_of (shown_of c book)) (rule_counts (length c.rules.now) book)
      first.items refl (rw by are)

  report_same : (report : Option (List ℕ))
      → IsOfBook (enough_listed report c.summary c.limit) c book
      → held_report report c ≡ report_texts report (shown_of c book)
  report_same None is = refl
  report_same (Some file) is =
      ap (λ (text : List ℕ). in_file file text ∷ [])
      (ap (λ counts. full_text (content_with (shown_of c (markers_of c.found.now.held)) counts))
      is.counts
      ∙ items_same c.found.now.held c.limit refl is.held)

-- ---- both

pub told_same : FirstMarkersAreListed → FirstMarkersHaveTheItems → (report : Option (List ℕ))
    (c : Checked) (book : List Marker) → IsOfBook (enough_listed report c.summary c.limit) c book
    → on_output (held_printed c c.summary) ∷ held_report report c
    ≡ listing_texts report (shown_of c book)
told_same listed items report c book is =
    ap (λ text. on_output text ∷ held_report report c)
    (printed_same listed c book report c.summary is)
    ∙ ap (λ texts. on_output (listing_text (shown_of c book)) ∷ texts)
    (report_same items c book report is)
