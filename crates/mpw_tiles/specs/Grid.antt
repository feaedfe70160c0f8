-- A grid of half-open cores over a closed extent: square cells with one side length, from the extent's lower left corner on. Lengths are in nm.
use Rattle.std.specs.Prelude.{◌≡◌, ◌≤◌, ◌<◌, ◌^◌, ℕ, ◌+◌, ◌*◌, ◌/◌, ◌%◌, ℤ, pos, neg_ℤ, ◌+ℤ◌, ◌-ℤ◌, ◌≤ℤ◌, unsigned_abs, true}
use Rattle.mpw_geom.specs.declared.plane.Box2.{Box2}
use Rattle.mpw_geom.specs.declared.plane.Point.{Point}
use Rattle.mpw_geom.specs.Plane.{IsBoxInPlane, IsOrdered, Square, has_square, widened}
use Rattle.mpw_tiles.specs.declared.grid.Block.{Block}

-- A grid, by the extent that it covers and the side of its cells.
pub record Cells : Type 0 where
  pub extent : Box2
  pub side : ℕ

-- How many whole sides lie from one coordinate to a later one.
abbrev pub sides_between : ℕ → ℤ → ℤ → ℕ
sides_between side from to = unsigned_abs (to -ℤ from) / side

-- One more than the whole sides of the extent, so that its last coordinates are covered too.
unfoldable pub columns : Cells → ℕ
columns g = sides_between g.side g.extent.x0 g.extent.x1 + 1

unfoldable pub rows : Cells → ℕ
rows g = sides_between g.side g.extent.y0 g.extent.y1 + 1

abbrev pub cells : Cells → ℕ
cells g = rows g * columns g

-- The core of a column and a row.
unfoldable pub core_at : Cells → (column row : ℕ) → Box2
core_at g column row = record {
  x0 = g.extent.x0 +ℤ pos (column * g.side);
  y0 = g.extent.y0 +ℤ pos (row * g.side);
  x1 = g.extent.x0 +ℤ pos (column * g.side) +ℤ pos g.side;
  y1 = g.extent.y0 +ℤ pos (row * g.side) +ℤ pos g.side;
}

-- Cells are numbered row by row: a number is its row times the columns plus its column.
abbrev pub column_of : Cells → ℕ → ℕ
column_of g cell = cell % columns g

abbrev pub row_of : Cells → ℕ → ℕ
row_of g cell = cell / columns g

abbrev pub core_of : Cells → ℕ → Box2
core_of g cell = core_at g (column_of g cell) (row_of g cell)

-- A window is its core, extended by the margin on each side.
abbrev pub window_at : Cells → ℕ → (column row : ℕ) → Box2
window_at g margin column row = widened (core_at g column row) margin

abbrev pub window_of : Cells → ℕ → ℕ → Box2
window_of g margin cell = widened (core_of g cell) margin

-- The cell that division finds for a point.
unfoldable pub found_cell : Cells → Point → ℕ
found_cell g p =
    sides_between g.side g.extent.y0 p.y * columns g + sides_between g.side g.extent.x0 p.x

-- The unit square whose lower left corner is the point.
abbrev pub square_at : Point → Square
square_at p = record { column = p.x; row = p.y }

-- The point lies in the core of this cell, and in no other.
pub record IsOnlyCell (g : Cells) (p : Point) (cell : ℕ) : Type 0 where
  pub within : cell < cells g
  pub inside : has_square (core_of g cell) (square_at p) ≡ true
  pub only : (other : ℕ) → other < cells g → has_square (core_of g other) (square_at p) ≡ true
      → other ≡ cell

-- The boxes have a unit square in common.
pub record ShareSquare (a b : Box2) : Type 0 where
  pub square : Square
  pub first : has_square a square ≡ true
  pub second : has_square b square ≡ true

-- The cell of that column and row is one of the block.
pub record IsInBlock (block : Block) (column row : ℕ) : Type 0 where
  pub left : block.column0 ≤ column
  pub right : column < block.column1
  pub bottom : block.row0 ≤ row
  pub top : row < block.row1

-- The box lies right of and above -n, and left of and below n, inclusively. For an ordered box this says that both corners lie from -n
-- to n.
pub record IsBoxWithin (n : ℕ) (b : Box2) : Type 0 where
  pub left : neg_ℤ (pos n) ≤ℤ b.x0
  pub right : b.x1 ≤ℤ pos n
  pub bottom : neg_ℤ (pos n) ≤ℤ b.y0
  pub top : b.y1 ≤ℤ pos n

-- The properties of a grid: these are its columns and rows, and its cells are few enough to be numbered.
pub record IsGrid (g : Cells) (counted_columns counted_rows : ℕ) : Type 0 where
  pub plane : IsBoxInPlane g.extent
  pub ordered : IsOrdered g.extent
  pub side : 1 ≤ g.side
  pub short : g.side < 2 ^ 32
  pub columns_are : counted_columns ≡ columns g
  pub rows_are : counted_rows ≡ rows g
  pub few : cells g < 2 ^ 32
