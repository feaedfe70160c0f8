-- Rectangles that windows list.
use Rattle.std.specs.Prelude.{◌≡◌, ◌<◌, ℕ, true, List, [], length, slice_index_or, Contains, ◌↔◌}
use Rattle.mpw_geom.specs.declared.plane.Box2.{Box2}
use Rattle.mpw_geom.specs.declared.plane.Layer.{Layer}
use Rattle.mpw_geom.specs.Plane.{Square, has_square}
use Rattle.mpw_tiles.specs.Grid.{ShareSquare}
use Rattle.mpw_tiles.specs.declared.listing.Rectangle.{Rectangle}
use Rattle.mpw_tiles.specs.Plan.{Tiling, tiles, tile_window}

-- The rectangle is of that layer and origin, and has the unit square.
pub record HasSquareOf (rectangle : Rectangle) (layer : Layer) (origin : ℕ) (s : Square) :
    Type 0 where
  pub on_layer : rectangle.layer ≡ layer
  pub of_origin : rectangle.origin ≡ origin
  pub has : has_square rectangle.area s ≡ true

-- A listed rectangle of that layer and origin has the unit square.
abbrev pub IsListed : List Rectangle → Layer → ℕ → Square → Type 0
IsListed listed layer origin s = (r : Rectangle) × Contains listed r × HasSquareOf r layer origin s

-- A listed rectangle of that origin, on any layer, has the unit square.
abbrev pub HasListed : List Rectangle → ℕ → Square → Type 0
HasListed listed origin s =
    (r : Rectangle) × Contains listed r × (r.origin ≡ origin) × (has_square r.area s ≡ true)

-- A window has exactly these squares in its box: by layer and origin, a listed rectangle has a square of the box exactly if it is
-- one of them.
pub record IsWindow (Has : Layer → ℕ → Square → Type 0) (box : Box2) (window : List Rectangle) :
    Type 0 where
  pub squares : (s : Square) (layer : Layer) (origin : ℕ) → has_square box s ≡ true
      → IsListed window layer origin s ↔ Has layer origin s

-- There is a window for each tile, which has exactly these squares there.
pub record AreWindowsOf (plan : Tiling) (Has : Layer → ℕ → Square → Type 0)
    (windows : List (List Rectangle)) : Type 0 where
  pub count : length windows ≡ tiles plan
  pub each : (tile : ℕ) → tile < tiles plan
      → IsWindow Has (tile_window plan tile) (slice_index_or windows tile [])

-- Each rectangle that a window lists has a unit square of the tile's window.
abbrev pub ListNear : Tiling → List (List Rectangle) → Type 0
ListNear plan windows = (tile : ℕ) (r : Rectangle) → tile < tiles plan
    → Contains (slice_index_or windows tile []) r → ShareSquare (tile_window plan tile) r.area
