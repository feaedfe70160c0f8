-- Vertical edges in bands of rows.
use Rattle.std.specs.Prelude.{◌≡◌, ℕ, ◌<◌, ◌≤◌, ◌+◌, ◌==◌, Bool, not, ◌&&◌, ◌⊎◌, ℤ, int_le, int_lt, ◌≤ℤ◌, ◌<ℤ◌, pos, List, length, slice_index_or, All, Contains, count_by}
use Rattle.mpw_geom.specs.Plane.{Square}
use Rattle.mpw_shapes.specs.declared.edge.Edge.{Edge}

-- the edge goes up across the row
unfoldable pub rises_in : ℤ → Edge → Bool
rises_in row e = e.is_up && (int_le e.low row && int_lt row e.high)

-- the edge goes down across the row
unfoldable pub falls_in : ℤ → Edge → Bool
falls_in row e = not e.is_up && (int_le e.low row && int_lt row e.high)

-- the same, at the square's column or left of it
unfoldable pub rises_left : Square → Edge → Bool
rises_left s e = int_le e.x s.column && rises_in s.row e

unfoldable pub falls_left : Square → Edge → Bool
falls_left s e = int_le e.x s.column && falls_in s.row e

-- the edges wind around the square: left of it the numbers of those that go up and down differ
unfoldable pub edges_have : List Edge → Square → Bool
edges_have edges s = not (count_by (rises_left s) edges == count_by (falls_left s) edges)

-- each edge begins and ends at the height of some corner
abbrev pub HasEndsAmong : List ℤ → Edge → Type 0
HasEndsAmong heights e = Contains heights e.low × Contains heights e.high

-- from left to right
abbrev pub AreFromLeft : List Edge → Type 0
AreFromLeft edges = (i j : ℕ) (d : Edge) → i ≤ j → j < length edges
    → (slice_index_or edges i d).x ≤ℤ (slice_index_or edges j d).x

-- from below
abbrev pub AreFromBelow : List ℤ → Type 0
AreFromBelow rows =
    (i j : ℕ) (d : ℤ) → i ≤ j → j < length rows → slice_index_or rows i d ≤ℤ slice_index_or rows j d

-- from below, all different
abbrev pub AreApart : List ℤ → Type 0
AreApart rows =
    (i j : ℕ) (d : ℤ) → i < j → j < length rows → slice_index_or rows i d <ℤ slice_index_or rows j d

-- the edge has no end strictly between the two rows
pub record IsClear (y0 y1 : ℤ) (e : Edge) : Type 0 where
  pub low : (e.low ≤ℤ y0) ⊎ (y1 ≤ℤ e.low)
  pub high : (e.high ≤ℤ y0) ⊎ (y1 ≤ℤ e.high)

-- as many edges go up across the row as go down
abbrev pub IsBalanced : List Edge → ℤ → Type 0
IsBalanced edges row = count_by (rises_in row) edges ≡ count_by (falls_in row) edges

-- the row lies between the first and the last of the rows
unfoldable pub is_between : ℤ → ℤ → ℤ → Bool
is_between y0 y1 row = int_le y0 row && int_lt row y1

-- no edge has an end strictly between two neighbouring rows
abbrev pub AreClear : List ℤ → List Edge → Type 0
AreClear rows edges = (k : ℕ) → k + 1 < length rows
    → All (IsClear (slice_index_or rows k (pos 0)) (slice_index_or rows (k + 1) (pos 0))) edges
