-- The cells of a grid: their numbers, and which core has a point.
use Rattle.std.proofs.Common.{◌≡◌, ℕ, ℤ, ◌+◌, ◌*◌, ◌/◌, ◌%◌, ◌^◌, ◌≤◌, ◌<◌, ◌∙◌, sym, ap, subst, true, arith, w64, SFits, to_z, of_z}
use Rattle.std.proofs.lemmas.Int.{to_z-of_z}
use Rattle.std.proofs.lemmas.Nat.{mul-add-lt, div-mul-add, mod-mul-add, div_below, mod_below}
use Rattle.mpw_geom.specs.declared.plane.Box2.{Box2}
use Rattle.mpw_geom.specs.declared.plane.Point.{Point}
use Rattle.mpw_geom.specs.Plane.{has_point, has_square}
use Rattle.mpw_geom.proofs.Tests.{PointIn, PointIn-from_test, SquareIn, SquareIn-from_test, test_from_SquareIn}
use Rattle.mpw_tiles.specs.Grid.{Cells, sides_between, columns, rows, cells, core_at, core_of, column_of, row_of, found_cell, square_at, IsOnlyCell, IsGrid}
use Rattle.mpw_tiles.proofs.Intervals.{found_low, found_high, found_only, found_within}

-- ---- numbers

pub some_columns : (g : Cells) → 1 ≤ columns g
unfolding columns
some_columns g = omega arith

pub some_rows : (g : Cells) → 1 ≤ rows g
unfolding rows
some_rows g = omega arith

pub columns_few : (g : Cells) → columns g ≤ cells g
columns_few g = let h = some_rows g in grind arith

pub rows_few : (g : Cells) → rows g ≤ cells g
rows_few g = let h = some_columns g in grind arith

pub number_within : (g : Cells) (column row : ℕ) → column < columns g → row < rows g
    → row * columns g + column < cells g
number_within g column row c r =
    let p = mul-add-lt row (columns g) column (rows g) r c in omega arith

pub number_column : (g : Cells) (column row : ℕ) → column < columns g
    → (row * columns g + column) % columns g ≡ column
number_column g column row c = mod-mul-add row (columns g) column c

pub number_row : (g : Cells) (column row : ℕ) → column < columns g
    → (row * columns g + column) / columns g ≡ row
number_row g column row c = div-mul-add row (columns g) column c

pub core_of_number : (g : Cells) (column row : ℕ) → column < columns g
    → core_of g (row * columns g + column) ≡ core_at g column row
core_of_number g column row c =
    ap (λ (n : ℕ). core_at g n ((row * columns g + column) / columns g))
    (number_column g column row c) ∙ ap (core_at g column) (number_row g column row c)

pub column_within : (g : Cells) (cell : ℕ) → column_of g cell < columns g
column_within g cell = mod_below cell (columns g) (some_columns g)

pub row_within : (g : Cells) (cell : ℕ) → cell < cells g → row_of g cell < rows g
row_within g cell h = div_below cell (columns g) (rows g) (some_columns g) h

pub same_number : (g : Cells) (cell column row : ℕ) → column_of g cell ≡ column
    → row_of g cell ≡ row → cell ≡ row * columns g + column
same_number g cell column row c r =
    subst (λ (n : ℕ). cell ≡ row * columns g + n) c
    (subst (λ (n : ℕ). cell ≡ n * columns g + column_of g cell) r
    (split cell (columns g) (some_columns g)))
  where
    split : (n k : ℕ) → 1 ≤ k → n ≡ n / k * k + n % k
    split n k h = omega arith

-- ---- points

found_column : (g : Cells) (p : Point) → 1 ≤ g.side → PointIn g.extent p
    → sides_between g.side g.extent.x0 p.x < columns g
unfolding columns
found_column g p h i = found_within g.extent.x0 p.x g.extent.x1 g.side h i.left i.right

found_row : (g : Cells) (p : Point) → 1 ≤ g.side → PointIn g.extent p
    → sides_between g.side g.extent.y0 p.y < rows g
unfolding rows
found_row g p h i = found_within g.extent.y0 p.y g.extent.y1 g.side h i.bottom i.top

pub found_columns : (g : Cells) (p : Point) → 1 ≤ g.side → has_point g.extent p ≡ true
    → sides_between g.side g.extent.x0 p.x < columns g
found_columns g p h i = found_column g p h (PointIn-from_test g.extent p i)

pub found_rows : (g : Cells) (p : Point) → 1 ≤ g.side → has_point g.extent p ≡ true
    → sides_between g.side g.extent.y0 p.y < rows g
found_rows g p h i = found_row g p h (PointIn-from_test g.extent p i)

-- sides that are counted between signed coordinates
counted : (s n : ℕ) (a b : ℤ) → SFits w64 a → SFits w64 b
    → n ≡ sides_between s (to_z w64 (of_z w64 a)) (to_z w64 (of_z w64 b)) → n ≡ sides_between s a b
counted s n a b f k e = simp to_z-of_z at e

pub counted_columns : (g : Cells) (n : ℕ) → SFits w64 g.extent.x0 → SFits w64 g.extent.x1
    → n ≡ sides_between g.side (to_z w64 (of_z w64 g.extent.x0)) (to_z w64 (of_z w64 g.extent.x1))
    → n + 1 ≡ columns g
unfolding columns
counted_columns g n f k e =
    ap (λ (n : ℕ). n + 1) (counted g.side n g.extent.x0 g.extent.x1 f k e)

pub counted_rows : (g : Cells) (n : ℕ) → SFits w64 g.extent.y0 → SFits w64 g.extent.y1
    → n ≡ sides_between g.side (to_z w64 (of_z w64 g.extent.y0)) (to_z w64 (of_z w64 g.extent.y1))
    → n + 1 ≡ rows g
unfolding rows
counted_rows g n f k e =
    ap (λ (n : ℕ). n + 1) (counted g.side n g.extent.y0 g.extent.y1 f k e)

-- fewer than the columns or rows of the grid, and few enough to be numbered
pub record IsBelow (count : Cells → ℕ) (seen : Cells) (n : ℕ) : Type 0 where
  pub within : n < count seen
  pub numbered : n < 2 ^ 32

-- the sides that the code counts for a grid, up to a point of the grid
pub counted_below : (count : Cells → ℕ) (low : Cells → ℤ) (at : Point → ℤ)
    → ((g : Cells) (p : Point) → 1 ≤ g.side → has_point g.extent p ≡ true
    → sides_between g.side (low g) (at p) < count g) → ((g : Cells) → count g ≤ cells g)
    → (kept seen : Cells) (p : Point) (n columns rows : ℕ) → kept ≡ seen
    → IsGrid kept columns rows → has_point seen.extent p ≡ true → SFits w64 (low kept)
    → SFits w64 (at p)
    → n ≡ sides_between kept.side (to_z w64 (of_z w64 (low kept))) (to_z w64 (of_z w64 (at p)))
    → IsBelow count seen n
counted_below count low at found few kept seen p n columns rows is grid inside f k e =
    let here = counted kept.side n (low kept) (at p) f k e in
    let below : sides_between kept.side (low kept) (at p) < count kept = found kept p grid.side
    (subst (λ (g : Cells). has_point g.extent p ≡ true) (sym is) inside) in
    let q : count kept ≤ cells kept = few kept in
    let numbered = grid.few in
    let first : n < count kept = subst (λ (m : ℕ). m < count kept) (sym here) below in
    record {
      within = subst (λ (g : Cells). n < count g) is first;
      numbered = omega (arith, first, q, numbered);
    }

in_found : (g : Cells) (p : Point) → 1 ≤ g.side → PointIn g.extent p
    → SquareIn (core_at g (sides_between g.side g.extent.x0 p.x)
    (sides_between g.side g.extent.y0 p.y)) (square_at p)
unfolding core_at
in_found g p h i = record {
  left = found_low g.extent.x0 p.x g.side h i.left;
  right = found_high g.extent.x0 p.x g.side h i.left;
  bottom = found_low g.extent.y0 p.y g.side h i.bottom;
  top = found_high g.extent.y0 p.y g.side h i.bottom;
}

column_is : (g : Cells) (p : Point) (column row : ℕ) → 1 ≤ g.side
    → SquareIn (core_at g column row) (square_at p) → column ≡ sides_between g.side g.extent.x0 p.x
unfolding core_at
column_is g p column row h i = found_only g.extent.x0 p.x g.side column h i.left i.right

row_is : (g : Cells) (p : Point) (column row : ℕ) → 1 ≤ g.side
    → SquareIn (core_at g column row) (square_at p) → row ≡ sides_between g.side g.extent.y0 p.y
unfolding core_at
row_is g p column row h i = found_only g.extent.y0 p.y g.side row h i.bottom i.top

pub only_cell : (g : Cells) (p : Point) → 1 ≤ g.side → has_point g.extent p ≡ true
    → IsOnlyCell g p (found_cell g p)
unfolding found_cell
only_cell g p h t =
    let i = PointIn-from_test g.extent p t in
    let column = sides_between g.side g.extent.x0 p.x in
    let row = sides_between g.side g.extent.y0 p.y in
    let c = found_column g p h i in
    let r = found_row g p h i in
    record {
      within = number_within g column row c r;
      inside = subst (λ (b : Box2). has_square b (square_at p) ≡ true)
          (sym (core_of_number g column row c))
          (test_from_SquareIn (core_at g column row) (square_at p) (in_found g p h i));
      only = λ other _ k. let s = SquareIn-from_test (core_of g other) (square_at p) k in
          same_number g other column row (column_is g p (column_of g other) (row_of g other) h s)
          (row_is g p (column_of g other) (row_of g other) h s);
    }

pub numbered : (g : Cells) (column row : ℕ) → column < columns g → row < rows g
    → (row * columns g + column < cells g) × ((row * columns g + column) % columns g ≡ column)
    × ((row * columns g + column) / columns g ≡ row)
numbered g column row c r =
    (number_within g column row c r, number_column g column row c, number_row g column row c)
