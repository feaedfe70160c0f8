-- The markers of a flat layout by computed tests of squares and rows. The law `TestsTellMarkers` says that they are the same.
use Rattle.std.specs.Prelude.{ℕ, ℤ, ◌-ℤ◌, Bool, false, ◌&&◌, List, Option, Some, None, slice_get}
use Rattle.std.specs.List.{list_any}
use Rattle.mpw_geom.specs.declared.plane.Layer.{Layer}
use Rattle.mpw_geom.specs.declared.placing.Placing.{Placing}
use Rattle.mpw_geom.specs.Layers.{same_layer}
use Rattle.mpw_geom.specs.Placing.{oriented_square, undoing}
use Rattle.mpw_geom.specs.Plane.{Square}
use Rattle.mpw_deck.specs.declared.rule.Rule.{Rule}
use Rattle.mpw_edges.specs.declared.run.Axis.{Axis}
use Rattle.mpw_edges.specs.declared.run.Axis.TheVariants.{V, H}
use Rattle.mpw_edges.specs.Edges.{Squares, exchanged}
use Rattle.mpw_edges.specs.Computed.{has_pair_step}
use Rattle.mpw_shapes.specs.Element.{element_has}
use Rattle.mpw_hier.specs.Items.{Item}
use Rattle.mpw_tiles.specs.Shown.{layer_of, HasShown}
use Rattle.mpw_markers.specs.declared.marker.Line.{Line}
use Rattle.mpw_markers.specs.declared.marker.Marker.{Marker}
use Rattle.mpw_markers.specs.Book.{IsBook}
use Rattle.mpw_markers.specs.Whole.{AreMarkersOf}
use Rattle.mpw_job.specs.Layers.{Coverage, first_squares, second_squares}

-- ---- squares

-- The unit square that the placing takes to this one.
unfoldable pub square_before : Placing → Square → Square
square_before t s = oriented_square (undoing t.orient)
    (record { column = s.column -ℤ t.by.x; row = s.row -ℤ t.by.y })

-- The placed shape has the unit square.
abbrev pub item_has : Item → Square → Bool
item_has item s = element_has item.element (square_before item.placing s)

-- The layer is there and is that layer.
abbrev pub is_layer : Option Layer → Layer → Bool
is_layer None layer = false
is_layer (Some own) layer = same_layer own layer

-- A placed shape of the flat list on the layer has the unit square.
abbrev pub shown_on : List Item → Coverage
shown_on items layer i j = list_any (λ (item : Item). is_layer (layer_of item.element) layer
    && item_has item (record { column = i; row = j })) items

-- ---- rows

-- There is a pair step over the whole plane: H is V with the coordinates exchanged.
abbrev pub has_step_on : Rule → Squares → Squares → Axis → ℕ → ℤ → ℤ → ℤ → Bool
has_step_on rule a b V = has_pair_step rule.check rule.distance a b
has_step_on rule a b H = has_pair_step rule.check rule.distance (exchanged a) (exchanged b)

abbrev pub has_step_of : Option Rule → Coverage → Line → ℤ → Bool
has_step_of None on line j = false
has_step_of (Some rule) on line j = has_step_on rule (first_squares rule.check on)
    (second_squares rule.check on) line.axis line.side line.x1 line.x2 j

-- The row has a pair step of the line's rule on the line.
abbrev pub steps_of : List Rule → Coverage → Line → ℤ → Bool
steps_of rules on line = has_step_of (slice_get rules line.rule) on line

-- ---- markers

-- A book with one marker for each maximal run of rows that the test of rows passes.
abbrev pub AreTestedMarkers : List Rule → List Item → List Marker → Type 0
AreTestedMarkers rules items markers =
    IsBook markers × AreMarkersOf (steps_of rules (shown_on items)) (HasShown items) markers
