-- For private functions and proofs: rectangles that windows list.
use Rattle.std.specs.Prelude.{◌≡◌, ◌≤◌, ◌<◌, ℕ, true, List, [], length, slice_index_or, Contains, ◌⊎◌, ◌↔◌}
use Rattle.mpw_geom.specs.declared.plane.Layer.{Layer}
use Rattle.mpw_geom.specs.declared.plane.Box2.{Box2}
use Rattle.mpw_geom.specs.Plane.{Square, has_square, any_has_square}
use Rattle.mpw_geom.specs.Placing.{placed_square}
use Rattle.mpw_tiles.specs.declared.grid.Block.{Block}
use Rattle.mpw_tiles.specs.Grid.{Cells, column_of, row_of, ShareSquare}
use Rattle.mpw_tiles.specs.declared.listing.Rectangle.{Rectangle}
use Rattle.mpw_tiles.specs.declared.place.PlacedShape.{PlacedShape}
use Rattle.mpw_tiles.specs.Plan.{Tiling, tiles, tile_window}
use Rattle.mpw_tiles.specs.Listing.{IsListed}

-- To the lists of the tiles of P, and to no others, the rectangle was added.
pub record Lists (old new : List (List Rectangle)) (rectangle : Rectangle) (P : ℕ → Type 0) :
    Type 0 where
  pub count : length new ≡ length old
  pub listed : (tile : ℕ) (r : Rectangle) → Contains (slice_index_or new tile []) r
      ↔ (Contains (slice_index_or old tile []) r ⊎ (P tile × (r ≡ rectangle)))

-- The tile's column and row lie within these.
abbrev pub IsInRow : Cells → (from to row : ℕ) → ℕ → Type 0
IsInRow g from to row tile =
    (from ≤ column_of g tile) × (column_of g tile < to) × (row_of g tile ≡ row)

abbrev pub IsInRows : Cells → Block → (to : ℕ) → ℕ → Type 0
IsInRows g block to tile = (block.column0 ≤ column_of g tile) × (column_of g tile < block.column1)
    × (block.row0 ≤ row_of g tile) × (row_of g tile < to)

-- To each tile's window rectangles were added that have exactly the squares of P in it, and each of them has one there.
pub record AddsSquares (plan : Tiling) (old new : List (List Rectangle)) (P : Layer → ℕ → Square
    → Type 0) : Type 0 where
  pub count : length new ≡ length old
  pub squares : (tile : ℕ) (s : Square) (layer : Layer) (origin : ℕ) → tile < tiles plan
      → has_square (tile_window plan tile) s ≡ true
      → IsListed (slice_index_or new tile []) layer origin s
      ↔ (IsListed (slice_index_or old tile []) layer origin s ⊎ P layer origin s)
  pub near : (tile : ℕ) (r : Rectangle) → tile < tiles plan
      → Contains (slice_index_or new tile []) r
      → Contains (slice_index_or old tile []) r ⊎ ShareSquare (tile_window plan tile) r.area

-- A box of the shape, placed, has the unit square, and these are its layer and origin.
pub record HasPlacedSquare (boxes : List Box2) (shape : PlacedShape) (layer : Layer) (origin : ℕ)
    (s : Square) : Type 0 where
  pub on_layer : shape.layer ≡ layer
  pub of_origin : shape.origin ≡ origin
  pub square : Square
  pub has : any_has_square boxes square ≡ true
  pub placed : placed_square shape.placing square ≡ s
