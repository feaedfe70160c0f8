-- Laws of grids.
use Rattle.std.specs.Prelude.{◌≡◌, ◌≤◌, ◌<◌, ℕ, ◌+◌, ◌*◌, ◌/◌, ◌%◌, true}
use Rattle.mpw_geom.specs.declared.plane.Point.{Point}
use Rattle.mpw_geom.specs.Plane.{IsOrdered, has_point}
use Rattle.mpw_tiles.specs.Grid.{Cells, columns, rows, cells, found_cell, window_of, IsOnlyCell, IsBoxWithin}

-- Each point of the closed extent lies in exactly one core: that of the cell that division finds.
abbrev pub EachPointHasOneCore : Type 0
EachPointHasOneCore = (g : Cells) (p : Point) → 1 ≤ g.side → has_point g.extent p ≡ true
    → IsOnlyCell g p (found_cell g p)

-- A column and a row have a number, and a number has its column and row.
abbrev pub CellsAreNumbered : Type 0
CellsAreNumbered =
    (g : Cells) (column row : ℕ) → column < columns g → row < rows g
    → (row * columns g + column < cells g) × ((row * columns g + column) % columns g ≡ column)
    × ((row * columns g + column) / columns g ≡ row)

-- A window exceeds its grid's extent by at most a side plus the margin.
abbrev pub WindowsReachNoFurther : Type 0
WindowsReachNoFurther =
    (g : Cells) (margin cell m : ℕ) → 1 ≤ g.side → IsOrdered g.extent → cell < cells g
    → IsBoxWithin m g.extent
    → IsBoxWithin (m + g.side + margin) (window_of g margin cell)
