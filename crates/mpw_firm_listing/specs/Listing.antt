-- The listing of all markers of a structure.
use Rattle.std.specs.Prelude.{ℕ, Bool, List, [], ◌++◌, is_some, filter, length, slice_get, Option, None, Some}
use Rattle.std.specs.List.{flat_map}
use Rattle.mpw_deck.specs.declared.rule.Rule.{Rule}
use Rattle.mpw_markers.specs.declared.marker.Marker.{Marker}
use Rattle.mpw_firm_listing.specs.Lines.{head_text, line_text}
use Rattle.mpw_firm_listing.specs.declared.listing.Listing.{Listing}

-- A marker's rule is among the rules. Otherwise the marker has no line.
abbrev pub has_rule : List Rule → Marker → Bool
has_rule rules m = is_some (slice_get rules m.key.rule)

abbrev pub line_with : (parts : ℕ) → (top : List ℕ) → Marker → Option Rule → List ℕ
line_with parts top m None = []
line_with parts top m (Some rule) = line_text parts top rule m

abbrev pub marker_line : (parts : ℕ) → (top : List ℕ) → List Rule → Marker → List ℕ
marker_line parts top rules m = line_with parts top m (slice_get rules m.key.rule)

-- How many markers have a line.
abbrev pub count_of_lines : List Rule → List Marker → ℕ
count_of_lines rules markers = length (filter (has_rule rules) markers)

-- The line of each of some markers, in order.
abbrev pub lines_of : Listing → List Marker → List ℕ
lines_of l markers = flat_map (marker_line l.parts.now l.top.now l.rules.now) markers

-- How many lines there are, and the line of each marker in order.
unfoldable pub listing_text : (parts : ℕ) (top : List ℕ) (rules : List Rule)
    (markers : List Marker) → List ℕ
listing_text parts top rules markers =
    head_text (count_of_lines rules markers) ++ flat_map (marker_line parts top rules) markers

abbrev pub listing_of : Listing → List ℕ
listing_of l = listing_text l.parts.now l.top.now l.rules.now l.markers.now
