-- What is printed about a layout's markers: their listing and their report, of the first of each rule if there is a limit; or their numbers by rule.
use Rattle.std.specs.Prelude.{ℕ, ◌-◌, ◌^◌, Bool, true, false, List, [], ◌∷◌, length, map, Option, None, Some, option_map}
use Rattle.std.specs.List.{flat_map}
use Rattle.mpw_firm_outputs.specs.Counted.{counts_text, rule_counts, summary_text}
use Rattle.mpw_firm_outputs.specs.Outputs.{Kept, in_file}
use Rattle.mpw_firm.specs.declared.checked.Checked.{Checked}
use Rattle.mpw_firm.specs.declared.found.Held.{Held}
use Rattle.mpw_firm.specs.declared.found.Held.TheVariants as held
use Rattle.mpw_deck.specs.declared.rule.Rule.{Rule}
use Rattle.mpw_firm_listing.specs.Limited.{Limited, limited_text}
use Rattle.mpw_firm_listing.specs.Listing.{listing_text as all_text}
use Rattle.mpw_markers.specs.declared.marker.Marker.{Marker}
use Rattle.mpw_geom.specs.declared.plane.Box2.{Box2}
use Rattle.mpw_firm_report.specs.Content.{Content, Noted, Told, fault_of, note_of}
use Rattle.mpw_firm_report.specs.Report.{full_text}

-- A limit as a number: without one the greatest.
abbrev pub most_of : Option ℕ → ℕ
most_of None = 2 ^ 64 - 1
most_of (Some limit) = limit

-- What is shown of markers: the name of the layout's file, the structure's, the rules, the parts of a nanometre that lengths count, the markers, the limit, the notes about what was
-- looked at, whether their numbers are printed instead of their listing, and the elements that are left out for their faults.
pub record Shown : Type 0 where
  pub original : Option (List ℕ)
  pub top : List ℕ
  pub rules : List Rule
  pub parts : ℕ
  pub book : List Marker
  pub limit : Option ℕ
  pub notes : List Noted
  pub summary : Bool
  pub faults : List Told

-- What is shown of what was checked, if these are all its markers.
abbrev pub shown_of : Checked → List Marker → Shown
shown_of c book = record {
  original = option_map (λ file. file.now) c.original;
  top = c.top.now;
  rules = c.rules.now;
  parts = c.parts.now;
  book = book;
  limit = c.limit;
  notes = map note_of c.notes.now;
  summary = c.summary;
  faults = map fault_of c.faults.now;
}

-- The boxes of these elements, as far as they are known.
abbrev pub area_listed : Option Box2 → List Box2
area_listed None = []
area_listed (Some area) = area ∷ []

abbrev pub areas_of : List Told → List Box2
areas_of faults = flat_map (λ (f : Told). area_listed f.area) faults

abbrev pub limited_of : Shown → ℕ → Limited
limited_of s limit =
    record { top = s.top; rules = s.rules; markers = s.book; limit = limit; parts = s.parts }

abbrev pub listing_by : Shown → Option ℕ → List ℕ
listing_by s None = all_text s.parts s.top s.rules s.book
listing_by s (Some limit) = limited_text (limited_of s limit)

-- The numbers by rule, or the listing.
abbrev pub printed_text : Shown → (summary : Bool) → List ℕ
printed_text s true = summary_text s.rules s.book
printed_text s false = listing_by s s.limit

-- What is printed: the listing of all markers, or of the first of each rule, or the numbers.
abbrev pub listing_text : Shown → List ℕ
listing_text s = printed_text s s.summary

-- What the report has with these numbers: the first markers of each rule have an item, and each element that is left out for its fault.
abbrev pub content_with : Shown → List ℕ → Content
content_with s counts = record {
  original = s.original;
  top = s.top;
  rules = s.rules;
  markers = s.book;
  counts = Some counts;
  limit = most_of s.limit;
  notes = s.notes;
  faults = s.faults;
}

-- What the report has: all markers, with how many each rule has.
abbrev pub content_of : Shown → Content
content_of s = content_with s (rule_counts (length s.rules) s.book)

-- ---- the same by the markers that are held

abbrev pub markers_of : Held → List Marker
markers_of (held.All book) = book
markers_of (held.First first) = first.items

-- What is shown, as if these were all.
abbrev pub held_shown : Checked → Shown
held_shown c = shown_of c (markers_of c.found.now.held)

abbrev pub held_limited : Checked → Limited
held_limited c = limited_of (held_shown c) (most_of c.limit)

abbrev pub held_content : Checked → Content
held_content c = content_with (held_shown c) c.found.now.counts.items

-- All are listed, if there is no limit.
abbrev pub held_listing : Checked → Option ℕ → Held → List ℕ
held_listing c None (held.All book) = all_text c.parts.now c.top.now c.rules.now book
held_listing c None (held.First first) = limited_text (held_limited c)
held_listing c (Some limit) h = limited_text (held_limited c)

abbrev pub held_printed : Checked → (summary : Bool) → List ℕ
held_printed c true = counts_text c.rules.now c.found.now.counts.items c.found.now.all
held_printed c false = held_listing c c.limit c.found.now.held

abbrev pub held_report : Option (List ℕ) → Checked → List Kept
held_report None c = []
held_report (Some file) c = in_file file (full_text (held_content c)) ∷ []
