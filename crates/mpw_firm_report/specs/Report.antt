-- The text of a report: a deck's rules and a book's markers as a report database of KLayout.
use Rattle.std.specs.Prelude.{◌≡◌, ℕ, ◌-◌, ◌^◌, nat_le, if◌then◌else◌, ℤ, List, [], ◌∷◌, ◌++◌, take, codes, Option, None, Some}
use Rattle.std.specs.List.{concat, flat_map, enumerate_from}
use Rattle.std.specs.Fmt.{decimal}
use Rattle.mpw_geom.specs.declared.plane.Box2.{Box2}
use Rattle.mpw_geom.specs.declared.plane.Layer.{Layer}
use Rattle.mpw_geom.specs.declared.plane.Point.{Point}
use Rattle.mpw_deck.specs.declared.rule.Check.{Check}
use Rattle.mpw_deck.specs.declared.rule.Check.TheVariants.{Width, Space, Separation, Enclosing}
use Rattle.mpw_deck.specs.declared.rule.Rule.{Rule}
use Rattle.mpw_edges.specs.declared.run.Axis.{Axis}
use Rattle.mpw_edges.specs.declared.run.Axis.TheVariants.{V, H}
use Rattle.mpw_edges.specs.declared.run.Piece.{Piece}
use Rattle.mpw_markers.specs.declared.marker.Marker.{Marker}
use Rattle.mpw_firm_report.specs.Content.{Told, Noted, no_rules, idle, unnamed, unchecked, Content, counted, of_rule, AgreeFirst, with_markers}
use Rattle.mpw_firm_report.specs.Escapes.{path_character, escaped, path_text}
use Rattle.mpw_firm_report.specs.Lengths.{micrometres}
use Rattle.mpw_firm_report.specs.Parts.{part_text}
use Rattle.mpw_firm_report.specs.declared.edge.Edge.{Edge}
use Rattle.mpw_firm_report.specs.declared.part.Part.TheVariants.{Head, HeadEnd, NoOriginal, Original, OriginalEnd, Generator, Categories, CategoryName, Description, CategoryEnd, FaultCategory, Cells, Items, ItemPath, ItemCell, Value, FaultItem, NextValue, ItemEnd, End}

-- ---- categories: one for each rule

-- a layer, as a deck has it
abbrev pub layer_text : Layer → List ℕ
layer_text l = concat (codes " " ∷ decimal l.layer ∷ codes "/" ∷ decimal l.datatype ∷ [])

-- the word of a check
unfoldable pub check_word : Check → List ℕ
check_word (Width layer) = codes "width"
check_word (Space layer) = codes "space"
check_word (Separation first second) = codes "separation"
check_word (Enclosing outer inner) = codes "enclosing"

-- its layers
unfoldable pub check_layers : Check → List ℕ
check_layers (Width layer) = layer_text layer
check_layers (Space layer) = layer_text layer
check_layers (Separation first second) = layer_text first ++ layer_text second
check_layers (Enclosing outer inner) = layer_text outer ++ layer_text inner

-- the rule's line of its deck, with its name escaped
unfoldable pub rule_text : Rule → List ℕ
rule_text rule =
    check_word rule.check ++ codes " " ++ escaped rule.name ++ check_layers rule.check ++ codes " "
    ++ decimal rule.distance

-- how many of `count` markers a limit leaves out; nothing if it leaves out none
unfoldable pub left_out_text : (count limit : ℕ) → List ℕ
left_out_text count limit =
    if nat_le count limit then []
    else concat
    (codes "; "
    ∷ decimal (count - limit)
    ∷ codes " of "
    ∷ decimal count
    ∷ codes " markers left out"
    ∷ [])

-- the category of the rule at that index in the deck: its name, and as its description the rule, and how many markers are left out
unfoldable pub category_text : Content → ℕ × Rule → List ℕ
category_text c row =
    part_text CategoryName ++ escaped row.1.name ++ part_text Description ++ rule_text row.1
    ++ left_out_text (counted c.counts c.markers row.0) c.limit
    ++ part_text CategoryEnd

-- the category of faults, if there are some
unfoldable pub fault_category : List Told → List ℕ
fault_category [] = []
fault_category (fault ∷ faults) = part_text FaultCategory

-- ---- items: one for each marker

-- the point at x in row y of an axis; on axis H the coordinates are exchanged
abbrev pub point_on : Axis → ℤ → ℤ → Point
point_on V x y = record { x = x; y = y }
point_on H x y = record { x = y; y = x }

-- the edges of a marker's pair: the first along its rows, the second back
abbrev pub first_edge : Piece → Edge
first_edge p = record { start = point_on p.axis p.x1 p.y0; end = point_on p.axis p.x1 p.y1 }

abbrev pub second_edge : Piece → Edge
second_edge p = record { start = point_on p.axis p.x2 p.y1; end = point_on p.axis p.x2 p.y0 }

-- points, in micrometres, and an edge by its two
unfoldable pub point_text : Point → List ℕ
point_text p = micrometres p.x ++ codes "," ++ micrometres p.y

unfoldable pub edge_text : Edge → List ℕ
edge_text e = codes "(" ++ point_text e.start ++ codes ";" ++ point_text e.end ++ codes ")"

-- both
unfoldable pub pair_text : Piece → List ℕ
pair_text p =
    codes "edge-pair: " ++ edge_text (first_edge p) ++ codes "|" ++ edge_text (second_edge p)

-- the item of a marker of that rule, in the cell with that name
unfoldable pub item_text : List ℕ → Rule → Marker → List ℕ
item_text top rule m =
    part_text ItemPath ++ path_text rule.name ++ part_text ItemCell ++ escaped top
    ++ part_text Value ++ pair_text m.key.piece
    ++ part_text ItemEnd

-- the items of a rule: of its first markers
abbrev pub rule_items : Content → ℕ × Rule → List ℕ
rule_items c row = flat_map (item_text c.top row.1) (take c.limit (of_rule c.markers row.0))

-- ---- items: one for each fault

-- its structure, if it is in one
unfoldable pub place_text : Option (List ℕ) → List ℕ
place_text None = []
place_text (Some name) = codes " in " ++ flat_map path_character name

-- its code, its byte and its structure, between quotes
unfoldable pub fault_value : Told → List ℕ
fault_value f =
    codes "text: '" ++ flat_map path_character f.code
    ++ concat (codes " at byte " ∷ decimal f.byte ∷ [])
    ++ place_text f.structure
    ++ codes "'"

-- the lower left corner of a box, and its upper right one
abbrev pub low_corner : Box2 → Point
low_corner b = record { x = b.x0; y = b.y0 }

abbrev pub high_corner : Box2 → Point
high_corner b = record { x = b.x1; y = b.y1 }

-- a box, in micrometres, by both
unfoldable pub area_text : Box2 → List ℕ
area_text b =
    codes "box: (" ++ point_text (low_corner b) ++ codes ";" ++ point_text (high_corner b)
    ++ codes ")"

-- another value of the item: the position of the element
unfoldable pub area_value : Option Box2 → List ℕ
area_value None = []
area_value (Some area) = part_text NextValue ++ area_text area

-- the item of a fault, in the cell with that name
unfoldable pub fault_text : List ℕ → Told → List ℕ
fault_text top f =
    part_text FaultItem ++ escaped top ++ part_text Value ++ fault_value f ++ area_value f.area
    ++ part_text ItemEnd

-- ---- the description: the notes, each after a semicolon

unfoldable pub idle_text : (rule : List ℕ) → Layer → List ℕ
idle_text rule layer =
    codes "; rule " ++ escaped rule ++ codes " looks at nothing: layer" ++ layer_text layer
    ++ codes " has no shapes"

unfoldable pub unnamed_text : Layer → (shapes : ℕ) → List ℕ
unnamed_text layer shapes =
    codes "; no rule names layer" ++ layer_text layer
    ++ concat (codes ", which has " ∷ decimal shapes ∷ codes " shapes" ∷ [])

unfoldable pub note_text : Noted → List ℕ
note_text no_rules = codes "; the deck has no rules, so nothing is looked at"
note_text (idle rule layer) = idle_text rule layer
note_text (unnamed layer shapes) = unnamed_text layer shapes
note_text unchecked = codes "; the library has faults, so nothing is checked"

-- ---- the whole

-- the name of the layout's file, if it is known
unfoldable pub original_text : Option (List ℕ) → List ℕ
original_text None = part_text NoOriginal
original_text (Some file) = part_text Original ++ escaped file ++ part_text OriginalEnd

-- what comes before the categories
unfoldable pub head_text : Content → List ℕ
head_text c =
    part_text Head ++ escaped c.top ++ flat_map note_text c.notes ++ part_text HeadEnd
    ++ original_text c.original
    ++ part_text Generator
    ++ escaped c.top
    ++ part_text Categories

-- what comes between the categories and the items: the one cell
unfoldable pub cells_text : List ℕ → List ℕ
cells_text top = part_text Cells ++ escaped top ++ part_text Items

-- a report: a category for each rule in order and one for faults, the structure's cell, for each rule an item for each of its first markers
-- in order, and an item for each fault in order
unfoldable pub full_text : Content → List ℕ
full_text c =
    head_text c ++ flat_map (category_text c) (enumerate_from 0 c.rules) ++ fault_category c.faults
    ++ cells_text c.top
    ++ flat_map (rule_items c) (enumerate_from 0 c.rules)
    ++ flat_map (fault_text c.top) c.faults
    ++ part_text End

-- the report of all markers of a structure with that name under these rules, which names no file and has no faults
abbrev pub all_markers : List Rule → List ℕ → List Marker → Content
all_markers rules top markers = record {
  original = None;
  top = top;
  rules = rules;
  markers = markers;
  counts = None;
  limit = 2 ^ 64 - 1;
  notes = [];
  faults = [];
}

unfoldable pub report_text : List Rule → List ℕ → List Marker → List ℕ
report_text rules top markers = full_text (all_markers rules top markers)

-- If the report has the number of markers of each rule, the first of each rule, up to the limit, make the same report as all.
abbrev pub FirstMarkersHaveTheItems : Type 0
FirstMarkersHaveTheItems =
    (c : Content) (counts : List ℕ) (first : List Marker) → c.counts ≡ Some counts
    → AgreeFirst c.limit first c.markers → full_text (with_markers c first) ≡ full_text c
