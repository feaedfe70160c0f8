-- The content of a report, without references: markers of a structure and faults of elements.
use Rattle.std.specs.Prelude.{◌≡◌, ℕ, ◌==◌, List, get_or, length, map, take, Option, None, Some, option_map}
use Rattle.std.specs.List.{filter}
use Rattle.mpw_geom.specs.declared.plane.Box2.{Box2}
use Rattle.mpw_geom.specs.declared.plane.Layer.{Layer}
use Rattle.mpw_deck.specs.declared.rule.Rule.{Rule}
use Rattle.mpw_markers.specs.declared.marker.Marker.{Marker}
use Rattle.mpw_firm_report.specs.declared.content.Fault.{Fault}
use Rattle.mpw_firm_report.specs.declared.content.Note.{Note}
use Rattle.mpw_firm_report.specs.declared.content.Note.TheVariants as note
use Rattle.mpw_firm_report.specs.declared.content.Report.{Report}

-- A fault of an element: the word of its code, the byte in the file, the structure if it is in one, and its position in the
-- top's coordinates if that is known.
pub record Told : Type 0 where
  pub code : List ℕ
  pub byte : ℕ
  pub structure : Option (List ℕ)
  pub area : Option Box2

-- A note about what a check reads: the deck has no rules; the rule with that name checks nothing, since that layer has no shapes; no
-- rule names that layer, with the number of its shapes; or the library has faults, so nothing is checked.
pub data Noted : Type 0 where
  no_rules : Noted
  idle : List ℕ → Layer → Noted
  unnamed : Layer → ℕ → Noted
  unchecked : Noted

-- The name of the layout's file, the structure's name, the rules, the markers, how many each rule has if the markers are only the first of each,
-- the most items of a rule, the notes, and the faults.
pub record Content : Type 0 where
  pub original : Option (List ℕ)
  pub top : List ℕ
  pub rules : List Rule
  pub markers : List Marker
  pub counts : Option (List ℕ)
  pub limit : ℕ
  pub notes : List Noted
  pub faults : List Told

abbrev pub fault_of : Fault → Told
fault_of f = record {
  code = f.code.now;
  byte = f.byte;
  structure = option_map (λ name. name.now) f.structure;
  area = f.area;
}

abbrev pub note_of : Note → Noted
note_of note.NoRules = no_rules
note_of (note.Idle name layer) = idle name.now layer
note_of (note.Unnamed layer shapes) = unnamed layer shapes
note_of note.Unchecked = unchecked

abbrev pub content_of : Report → Content
content_of r = record {
  original = option_map (λ file. file.now) r.original;
  top = r.top.now;
  rules = r.rules.now;
  markers = r.markers.now;
  counts = option_map (λ counts. counts.now) r.counts;
  limit = r.limit;
  notes = map note_of r.notes.now;
  faults = map fault_of r.faults.now;
}

-- the markers of the rule at that index in the deck, in order
abbrev pub of_rule : List Marker → ℕ → List Marker
of_rule markers place = filter (λ m. m.key.rule == place) markers

-- how many markers the rule at that index has
abbrev pub counted : Option (List ℕ) → List Marker → ℕ → ℕ
counted None markers place = length (of_rule markers place)
counted (Some counts) markers place = get_or counts place 0

-- the first markers of each rule, at most `most`, are the same in both
abbrev pub AgreeFirst : (most : ℕ) → List Marker → List Marker → Type 0
AgreeFirst most a b = (place : ℕ) → take most (of_rule a place) ≡ take most (of_rule b place)

-- the same with other markers
abbrev pub with_markers : Content → List Marker → Content
with_markers c markers = record {
  original = c.original;
  top = c.top;
  rules = c.rules;
  markers = markers;
  counts = c.counts;
  limit = c.limit;
  notes = c.notes;
  faults = c.faults;
}
