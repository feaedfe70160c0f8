-- Placed shapes and their rectangles, cut to the plane.
use Rattle.std.specs.Prelude.{◌≡◌, ◌<◌, ℕ, true, Some, ◌^◌, ℤ, pos, ◌≤ℤ◌, ◌<ℤ◌, neg_ℤ}
use Rattle.std.specs.Int.{int_min, int_max}
use Rattle.mpw_geom.specs.declared.plane.Box2.{Box2}
use Rattle.mpw_geom.specs.Plane.{Square, has_square, IsBoxInPlane}
use Rattle.mpw_geom.specs.Placing.{placed_square}
use Rattle.mpw_hier.specs.Items.{Item}
use Rattle.mpw_tiles.specs.declared.listing.Rectangle.{Rectangle}
use Rattle.mpw_tiles.specs.declared.place.PlacedShape.{PlacedShape}
use Rattle.mpw_tiles.specs.Plan.{Tiling, tiles, tile_window}
use Rattle.mpw_tiles.specs.Shown.{layer_of}

-- The coordinate, or the nearest one of the plane.
abbrev pub nearest : ℤ → ℤ
nearest z = int_min (int_max z (neg_ℤ (pos (2 ^ 48)))) (pos (2 ^ 48))

-- The unit square lies in the plane of coordinates from -2^48 to 2^48.
pub record IsSquareInPlane (s : Square) : Type 0 where
  pub left : neg_ℤ (pos (2 ^ 48)) ≤ℤ s.column
  pub right : s.column <ℤ pos (2 ^ 48)
  pub bottom : neg_ℤ (pos (2 ^ 48)) ≤ℤ s.row
  pub top : s.row <ℤ pos (2 ^ 48)

-- The windows of the plan lie in the plane.
abbrev pub WindowsLieInPlane : Tiling → Type 0
WindowsLieInPlane plan = (tile : ℕ) (s : Square) → tile < tiles plan
    → has_square (tile_window plan tile) s ≡ true → IsSquareInPlane s

-- What the item's rectangles have in common.
pub record IsShapeOf (item : Item) (shape : PlacedShape) : Type 0 where
  pub on_layer : layer_of item.element ≡ Some shape.layer
  pub of_origin : shape.origin ≡ item.origin
  pub placing : shape.placing ≡ item.placing

-- The rectangle has the shape's layer and origin, and exactly the placed unit squares of the box, as far as they lie in the
-- plane.
pub record IsRectangleOf (shape : PlacedShape) (b : Box2) (rectangle : Rectangle) : Type 0 where
  pub on_layer : rectangle.layer ≡ shape.layer
  pub of_origin : rectangle.origin ≡ shape.origin
  pub squares : (s : Square) → IsSquareInPlane (placed_square shape.placing s)
      → has_square rectangle.area (placed_square shape.placing s) ≡ has_square b s
  pub plane : IsBoxInPlane rectangle.area
