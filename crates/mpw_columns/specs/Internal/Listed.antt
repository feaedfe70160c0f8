-- Rectangles of shapes, as they are seen along an axis.
use Rattle.std.specs.Prelude.{ℕ, List, Contains, ◌⊎◌, ◌↔◌}
use Rattle.mpw_geom.specs.declared.plane.Layer.{Layer}
use Rattle.mpw_geom.specs.Plane.{Square}
use Rattle.mpw_edges.specs.declared.run.Axis.{Axis}
use Rattle.mpw_hier.specs.Items.{Item}
use Rattle.mpw_tiles.specs.declared.listing.Rectangle.{Rectangle}
use Rattle.mpw_tiles.specs.Listing.{IsListed}
use Rattle.mpw_tiles.specs.Placed.{IsSquareInPlane}
use Rattle.mpw_tiles.specs.Shown.{IsShown}
use Rattle.mpw_columns_keys.specs.Columns.{seen_box}
use Rattle.mpw_columns.specs.Seen.{seen_square}

abbrev pub seen_rectangle : Axis → Rectangle → Rectangle
seen_rectangle axis r =
    record { area = seen_box axis r.area; layer = r.layer; origin = r.origin }

-- To the rectangles, which are seen along the axis, some were added with exactly the squares of P, as far as they lie in the plane.
abbrev pub AddsSeen : Axis → (old new : List Rectangle) → (Layer → ℕ → Square → Type 0) → Type 0
AddsSeen axis old new P = (layer : Layer) (origin : ℕ) (s : Square) → IsSquareInPlane s
    → IsListed new layer origin (seen_square axis s)
    ↔ (IsListed old layer origin (seen_square axis s) ⊎ P layer origin s)

-- The same on these layers.
abbrev pub AddsShown : List Layer → Axis → (old new : List Rectangle)
    → (Layer → ℕ → Square → Type 0) → Type 0
AddsShown layers axis old new P = (layer : Layer) (origin : ℕ) (s : Square)
    → Contains layers layer → IsSquareInPlane s
    → IsListed new layer origin (seen_square axis s)
    ↔ (IsListed old layer origin (seen_square axis s) ⊎ P layer origin s)

-- On these layers they have exactly the squares of the shapes.
abbrev pub ShowSeen : List Layer → Axis → List Item → List Rectangle → Type 0
ShowSeen layers axis items listed = (layer : Layer) (origin : ℕ) (s : Square)
    → Contains layers layer → IsSquareInPlane s
    → IsListed listed layer origin (seen_square axis s) ↔ IsShown items layer origin s
