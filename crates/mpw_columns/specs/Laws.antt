-- Laws of columns.
use Rattle.std.specs.Prelude.{◌≡◌, ◌≤◌, ◌+◌, ℕ, ℤ, List, length, map, All, Some, ◌↔◌}
use Rattle.std.specs.List.{AllZip}
use Rattle.mpw_geom.specs.declared.plane.Box2.{Box2}
use Rattle.mpw_geom.specs.declared.plane.Layer.{Layer}
use Rattle.mpw_deck.specs.declared.rule.Rule.{Rule}
use Rattle.mpw_edges.specs.declared.run.Axis.{Axis}
use Rattle.mpw_edges.specs.declared.run.Axis.TheVariants.{V, H}
use Rattle.mpw_edges.specs.Edges.{Squares}
use Rattle.mpw_edges.specs.Laws.{AreSameIn}
use Rattle.mpw_edges.specs.Pieces.{HasStep}
use Rattle.mpw_hier.specs.Items.{Item}
use Rattle.mpw_columns_contents.specs.Contents.{AreWhole, AreSound}
use Rattle.mpw_columns_contents.specs.Displaced.{moved}
use Rattle.mpw_tiles.specs.Snapshots.{Snapshot, shown, shown_extent}
use Rattle.mpw_markers.specs.declared.marker.Key.{Key}
use Rattle.mpw_markers.specs.declared.marker.Marker.{Marker}
use Rattle.mpw_markers.specs.Laws.{steps_in}
use Rattle.mpw_markers.specs.Whole.{IsMaximal}
use Rattle.mpw_job.specs.Computed.{steps_of, shown_on}
use Rattle.mpw_job.specs.Layers.{Coverage}
use Rattle.mpw_job.specs.Layout.{AreLayoutMarkers}
use Rattle.mpw_columns_keys.specs.declared.column.Column.{Column}
use Rattle.mpw_columns_keys.specs.Columns.{across, widened_along, AreColumnsOf, seen_box}
use Rattle.mpw_columns_keys.specs.Keys.{displaced_key, together, of_first}
use Rattle.mpw_columns.specs.Displaced.{displaced, across_edges, IsDisplaced, AreDisplacedIn, AreDisplacedOn, ShowsDisplaced}
use Rattle.mpw_columns.specs.Found.{IsFound, HasLayers}
use Rattle.mpw_columns.specs.Plan.{CoverLayout, AreColumnsOfLayout, IsColumnWithin}
use Rattle.mpw_columns.specs.Runs.{IsRunWithin}
use Rattle.mpw_columns.specs.Seen.{seen_on}
use Rattle.mpw_columns.specs.Lists.{IsColumnList, MeetsShown}
use Rattle.mpw_columns.specs.Within.{is_in_column}

-- Which pair steps of an axis lie in a half-open core depends only on the squares of its window along that axis. The window is the core, wider by
-- the greatest distance plus 1 across the edges, and no wider along them.
abbrev pub WindowDecidesAlong : Type 0
WindowDecidesAlong =
    (rule : Rule) (greatest : ℕ) (a b a' b' : Squares) (core : Box2) (axis : Axis)
    → rule.distance ≤ greatest
    → AreSameIn (widened_along axis core (greatest + 1)) a a'
    → AreSameIn (widened_along axis core (greatest + 1)) b b'
    → (side : ℕ) (x1 x2 j : ℤ) → HasStep rule a b core axis side x1 x2 j
    ↔ HasStep rule a' b' core axis side x1 x2 j

-- The maximal runs of a column over all rows of the layout's extent are those of the whole layout on its axis whose x1 lies in it. So none
-- continues in another column.
abbrev pub ColumnsHaveWholeRuns : Type 0
ColumnsHaveWholeRuns =
    (s : Snapshot) (extent : Box2) (c : Column) (k : Key) → shown_extent s ≡ Some extent
    → IsMaximal (steps_in (steps_of s.deck.rules (shown_on (shown s))) (is_in_column extent c)) k
    ↔ IsRunWithin s c k

-- If columns of both axes cover the extent, and each marker touches what its box touches, then the joined lists of the columns are the
-- book of the flat layout.
abbrev pub ColumnsMakeTheLayout : Type 0
ColumnsMakeTheLayout =
    (s : Snapshot) (extent : Box2) (upright across : List Column) (vs hs : List (List Key))
    (book : List Marker) → shown_extent s ≡ Some extent → AreColumnsOf V extent upright
    → AreColumnsOf H extent across → AllZip (IsColumnList s) upright vs
    → AllZip (IsColumnList s) across hs
    → map (λ m. m.key) book ≡ together (length s.deck.rules) vs hs
    → All (MeetsShown s) book → AreLayoutMarkers s book

-- Each column of a layout lies within it.
abbrev pub ColumnsLieWithin : Type 0
ColumnsLieWithin =
    (s : Snapshot) (columns : List Column) → AreColumnsOfLayout s columns
    → All (IsColumnWithin s) columns

-- If the shelf has exactly one submission and columns of both axes cover the layout, then the markers of the joined lists are the layout's.
-- Each marker touches that submission.
abbrev pub ListsMakeTheLayout : Type 0
ListsMakeTheLayout =
    (s : Snapshot) (upright across : List Column) (vs hs : List (List Key)) → length s.shelf ≡ 1
    → CoverLayout s upright across → AllZip (IsColumnList s) upright vs
    → AllZip (IsColumnList s) across hs
    → AreLayoutMarkers s (map of_first (together (length s.deck.rules) vs hs))

-- Two coverages are seen along an axis. On the layers of the rules, the second has in the window of a core, displaced across the edges, exactly
-- what the first has in the window of the core. Then what is found of the second in the displaced core is what is found of the first in the core,
-- displaced. The window is wider than the core by a distance that is at least each rule's, plus 1.
abbrev pub DisplacedColumnsFindDisplacedRuns : Type 0
DisplacedColumnsFindDisplacedRuns =
    (rules : List Rule) (layers : List Layer) (greatest : ℕ) (axis : Axis) (on other : Coverage)
    (core : Box2) (by : ℤ) → All (λ rule. rule.distance ≤ greatest) rules
    → All (λ rule. HasLayers layers rule.check) rules
    → AreDisplacedOn layers (across core (greatest + 1)) by on other
    → (k : Key) → IsFound rules axis on core k
    ↔ IsFound rules axis other (displaced by core) (displaced_key by k)

-- If, on the layers of the rules, the displaced column's window has exactly what the column's window has, displaced, then the list of the
-- displaced column is the column's, displaced.
abbrev pub DisplacedColumnsHaveDisplacedLists : Type 0
DisplacedColumnsHaveDisplacedLists =
    (s : Snapshot) (extent : Box2) (layers : List Layer) (greatest : ℕ) (by : ℤ) (c e : Column)
    (keys : List Key) → shown_extent s ≡ Some extent
    → All (λ rule. rule.distance ≤ greatest) s.deck.rules
    → All (λ rule. HasLayers layers rule.check) s.deck.rules → IsDisplaced by c e
    → ShowsDisplaced s extent layers greatest by c → IsColumnList s c keys
    → IsColumnList s e (map (displaced_key by) keys)

-- All is seen along an axis. If what touches a window, displaced across the edges, is what touches the displaced window, then both windows have
-- the same content, displaced.
abbrev pub MovedItemsShowDisplaced : Type 0
MovedItemsShowDisplaced =
    (axis : Axis) (all first second : List Item) (window : Box2) (by : ℤ)
    → AreWhole (seen_box axis window) all first → AreSound all first
    → AreWhole (seen_box axis (displaced by window)) all second → AreSound all second
    → second ≡ map (moved (across_edges axis by)) first → (layer : Layer)
    → AreDisplacedIn window by (seen_on axis (shown_on all) layer)
    (seen_on axis (shown_on all) layer)
