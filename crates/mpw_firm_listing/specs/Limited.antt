-- The first markers of each rule, up to a limit, and the text of their listing.
use Rattle.std.specs.Prelude.{◌≡◌, ℕ, ◌-◌, ◌^◌, ◌++◌, List, length, min, take, sum_by}
use Rattle.std.specs.List.{enumerate_from, flat_map}
use Rattle.mpw_deck.specs.declared.rule.Rule.{Rule}
use Rattle.mpw_markers.specs.declared.marker.Marker.{Marker}
use Rattle.mpw_firm_report.specs.Content.{of_rule, AgreeFirst}
use Rattle.mpw_firm_listing.specs.Lines.{head_text, line_text}
use Rattle.mpw_firm_listing.specs.declared.limited.Limited as declared

-- The structure's name, the rules, the markers, the most markers of a rule that are listed, and the parts of a nanometre that lengths count.
pub record Limited : Type 0 where
  pub top : List ℕ
  pub rules : List Rule
  pub markers : List Marker
  pub limit : ℕ
  pub parts : ℕ

abbrev pub limited_of : declared.Limited → Limited
limited_of l = record {
  top = l.top.now;
  rules = l.rules.now;
  markers = l.markers.now;
  limit = l.limit;
  parts = l.parts.now;
}

-- How many there are of the rule at that index in the deck.
abbrev pub count_of : List Marker → ℕ → ℕ
count_of markers place = length (of_rule markers place)

-- The lines of the first markers of a rule, in their order.
abbrev pub rule_lines : Limited → ℕ × Rule → List ℕ
rule_lines l row = flat_map (line_text l.parts l.top row.1) (take l.limit (of_rule l.markers row.0))

-- How many markers of a rule are listed.
abbrev pub listed_of : Limited → ℕ × Rule → ℕ
listed_of l row = min l.limit (count_of l.markers row.0)

-- How many are listed, up to the greatest number of 64 bits.
unfoldable pub listed_count : Limited → ℕ
listed_count l = min (sum_by (listed_of l) (enumerate_from 0 l.rules)) (2 ^ 64 - 1)

-- Their number, and the lines of each rule in order.
unfoldable pub limited_text : Limited → List ℕ
limited_text l =
    head_text (listed_count l) ++ flat_map (rule_lines l) (enumerate_from 0 l.rules)

-- The same with other markers.
abbrev pub with_markers : Limited → List Marker → Limited
with_markers l markers =
    record { top = l.top; rules = l.rules; markers = markers; limit = l.limit; parts = l.parts }

-- The first markers of each rule, up to the limit, have the same listing as all markers.
abbrev pub FirstMarkersAreListed : Type 0
FirstMarkersAreListed =
    (l : Limited) (first : List Marker) → AgreeFirst l.limit first l.markers
    → limited_text (with_markers l first) ≡ limited_text l
