-- For private functions and proofs: which instances of an array miss a window, and an array without them.
use Rattle.std.specs.Prelude.{◌≡◌, ◌<◌, ◌≤◌, ◌+◌, ◌-◌, ◌⊎◌, ℕ, ℤ, pos, ◌+ℤ◌, ◌*ℤ◌, Bool, false, int_le}
use Rattle.std.specs.Int.{int_min, int_max}
use Rattle.mpw_geom.specs.Plane.{IsInPlane}
use Rattle.mpw_geom.specs.declared.plane.Box2.{Box2}
use Rattle.mpw_geom.specs.declared.plane.Point.{Point}
use Rattle.mpw_hier.specs.Boxes.{placed_box}
use Rattle.mpw_hier.specs.Items.{instance}
use Rattle.mpw_walk.specs.Window.{do_meet}
use Rattle.mpw_columns_contents.specs.declared.fit.Span.{Span}
use Rattle.mpw_columns_contents.specs.declared.fit.Places.{Places}
use Rattle.mpw_columns_contents.specs.declared.thing.Array.{Array}
use Rattle.mpw_columns_contents.specs.Things.{reference_of}

-- ---- along an axis

-- An interval some steps on, and whether two intervals share a number.
abbrev pub span_on : Span → (step : ℤ) → ℕ → Span
span_on a step k = record { low = a.low +ℤ (pos k *ℤ step); high = a.high +ℤ (pos k *ℤ step) }

abbrev pub do_share : Span → Span → Bool
do_share a b = int_le (int_max a.low b.low) (int_min a.high b.high)

abbrev pub IsOutside : Places → ℕ → Type 0
IsOutside p k = (k < p.from) ⊎ (p.end ≤ k)

abbrev pub IsEither : Places → Places → ℕ → Type 0
IsEither a b k = IsOutside a k ⊎ IsOutside b k

-- Of the first `most` intervals, those at indices outside `p` share no number with a window.
abbrev pub SpansMissed : (there window : Span) (step : ℤ) → ℕ → Places → Type 0
SpansMissed there window step most p =
    (k : ℕ) → k < most → IsOutside p k → do_share (span_on there step k) window ≡ false

-- The same wherever they are along the other steps.
abbrev pub AlongMissed : (there window : Span) (step other : ℤ) → ℕ → Places → Type 0
AlongMissed there window step other most p =
    (k n : ℕ) → k < most → IsOutside p k
    → do_share (span_on (span_on there step k) other n) window ≡ false

-- ---- arrays

-- The box of an instance, from that of the first one.
abbrev pub box_on : Box2 → (step : Point) → ℕ → Box2
box_on b step k = record {
  x0 = b.x0 +ℤ (pos k *ℤ step.x);
  y0 = b.y0 +ℤ (pos k *ℤ step.y);
  x1 = b.x1 +ℤ (pos k *ℤ step.x);
  y1 = b.y1 +ℤ (pos k *ℤ step.y);
}

abbrev pub box_at : Box2 → Array → (row column : ℕ) → Box2
box_at b a row column = box_on (box_on b a.column_step column) a.row_step row

-- The instances of other columns miss a window, and so do those of other rows.
abbrev pub ColumnsMissed : (there window : Box2) → Array → Places → Type 0
ColumnsMissed there window a p =
    (row column : ℕ) → column < a.columns → IsOutside p column
    → do_meet (box_at there a row column) window ≡ false

abbrev pub RowsMissed : (there window : Box2) → Array → Places → Type 0
RowsMissed there window a p =
    (row column : ℕ) → row < a.rows → IsOutside p row
    → do_meet (box_at there a row column) window ≡ false

-- An array of some columns and rows of another one.
pub record IsCut (a : Array) (columns rows : Places) (b : Array) : Type 0 where
  pub structure : b.structure ≡ a.structure
  pub node : b.node ≡ a.node
  pub columns_are : b.columns ≡ columns.end - columns.from
  pub rows_are : b.rows ≡ rows.end - rows.from
  pub instances : (row column : ℕ) → instance (reference_of b) row column
      ≡ instance (reference_of a) (rows.from + row) (columns.from + column)
  pub near : IsInPlane b.first.by

-- An instance of an array whose structure has that extent misses a window.
abbrev pub IsInstanceAway : Array → (window extent : Box2) → (row column : ℕ) → Type 0
IsInstanceAway a window extent row column =
    do_meet (placed_box (instance (reference_of a) row column) extent) window ≡ false

abbrev pub IsAway : Array → (window extent : Box2) → Type 0
IsAway a window extent =
    (row column : ℕ) → row < a.rows → column < a.columns → IsInstanceAway a window extent row column

-- An instance of one array is an instance of another array.
pub record IsInstanceOf (b a : Array) (row column : ℕ) : Type 0 where
  pub at_row : ℕ
  pub at_column : ℕ
  pub row_within : at_row < b.rows
  pub column_within : at_column < b.columns
  pub is : instance (reference_of b) at_row at_column ≡ instance (reference_of a) row column

-- An array without instances that miss a window.
pub record IsFitted (a : Array) (window extent : Box2) (b : Array) : Type 0 where
  pub structure : b.structure ≡ a.structure
  pub node : b.node ≡ a.node
  pub near : IsInPlane b.first.by
  pub kept : (row column : ℕ) → row < a.rows → column < a.columns
      → IsInstanceAway a window extent row column ⊎ IsInstanceOf b a row column
  pub from : (row column : ℕ) → row < b.rows → column < b.columns → IsInstanceOf a b row column
