-- Blocks: adjacent columns, taken as one.
use Rattle.std.specs.Prelude.{◌≡◌, ◌<◌, ◌+◌, ℕ, ℤ, ◌≤ℤ◌, List, get_or, All}
use Rattle.mpw_columns_keys.specs.declared.column.Column.{Column}
use Rattle.mpw_columns_keys.specs.Columns.{seen_box, upright}
use Rattle.mpw_columns.specs.declared.block.Block.{Block}
use Rattle.mpw_columns.specs.declared.layout.Layout.{Layout}
use Rattle.mpw_columns.specs.Displaced.{IsDisplaced}
use Rattle.mpw_columns.specs.Internal.Found.{IsUpright}

-- The column's core in the layout's extent begins no later than it ends, and is within bounds. The second: this holds for all columns.
abbrev pub IsUprightIn : Layout → Column → Type 0
IsUprightIn l c = IsUpright (upright (seen_box c.axis l.extent) c)

abbrev pub AreUprightIn : Layout → List Column → Type 0
AreUprightIn l columns = All (λ c. IsUpright (upright (seen_box c.axis l.extent) c)) columns

-- The block has `count` columns from index `place` on.
pub record IsBlockAt (l : Layout) (place count : ℕ) (b : Block) : Type 0 where
  pub place_is : b.place ≡ place
  pub count_is : b.count ≡ count
  pub upright : IsUprightIn l b.whole

-- The column lies within the other one, which has the same axis.
pub record IsPart (c whole : Column) : Type 0 where
  pub axis : c.axis ≡ whole.axis
  pub from : whole.from ≤ℤ c.from
  pub to : c.to ≤ℤ whole.to

-- The column lies within that of a block, and the other one is the column, displaced.
pub record IsCounterpart (whole : Column) (by : ℤ) (c e : Column) : Type 0 where
  pub part : IsPart c whole
  pub displaced : IsDisplaced by c e

-- This holds for each of `count` columns from index `from` on, and those from index `place` on.
abbrev pub AreCounterparts : List Column → (whole : Column) → ℤ → (from place count : ℕ) → Type 0
AreCounterparts columns whole by from place count =
    (k : ℕ) (c : Column) → k < count
    → IsCounterpart whole by (get_or columns (from + k) c) (get_or columns (place + k) c)
