-- The rows of a boundary right of the edges that were processed.
use Rattle.std.specs.Prelude.{ℕ, ◌<◌, ◌+◌, ◌-◌, ◌/◌, Bool, ◌&&◌, ◌⊎◌, ℤ, pos, negsuc, neg_ℤ, ◌+ℤ◌, ◌≤ℤ◌, int_le, int_lt, if◌then◌else◌, List, slice_index_or}
use Rattle.std.specs.Int.{int_max}
use Rattle.std.specs.Ordering.{int_eq}
use Rattle.mpw_shapes.specs.declared.edge.Edge.{Edge}
use Rattle.mpw_shapes.specs.declared.rows.Added.{Added}
use Rattle.mpw_shapes.specs.declared.rows.Gap.{Gap}
use Rattle.mpw_shapes.specs.declared.rows.Rows.{Rows}
use Rattle.mpw_shapes.specs.declared.rows.Rows.TheVariants.{Alike, Parted'}
use Rattle.mpw_shapes.specs.declared.rows.State.{State}

-- what an edge adds to the winding number of the rows that it crosses
abbrev pub turn_of : Edge → Added
turn_of e = record { winding = if e.is_up then pos 1 else negsuc 0 }

-- the edge crosses the row
unfoldable pub crosses : Edge → ℤ → Bool
crosses e row = int_le e.low row && int_lt row e.high

-- a row right of an edge that crosses it
unfoldable pub past : Edge → State → State
past e s = record {
  winding = s.winding +ℤ (turn_of e).winding;
  since = if int_eq s.winding (pos 0) then e.x
      else (if int_eq (s.winding +ℤ (turn_of e).winding) (pos 0) then pos 0 else s.since);
}

-- a row right of an edge
unfoldable pub right_of : Edge → ℤ → State → State
right_of e row s = if crosses e row then past e s else s

-- the edge ends, at the column, the squares of a row that it crosses
unfoldable pub closes : Edge → State → ℤ → Bool
closes e s c =
    int_eq (s.winding +ℤ (turn_of e).winding) (pos 0) && (int_le s.since c && int_lt c e.x)

-- a row with more turns around it
unfoldable pub raised : Added → State → State
raised a s = record { winding = s.winding +ℤ a.winding; since = s.since }

-- where the indices of a node are halved
abbrev pub middle : ℕ → ℕ → ℕ
middle from to = from + (to - from) / 2

-- the row, of a node of the indices between two
abbrev pub state_at : Rows → List ℤ → ℕ → ℕ → ℤ → State
state_at (Alike s) rows from to row = s
state_at (Parted' p below above added gap) rows from to row =
    raised added (if int_lt row (slice_index_or rows (middle from to) (pos 0))
    then state_at below rows from (middle from to) row else state_at above rows (middle from to) to
    row)

-- the row, of two halves of the indices between two
abbrev pub half_at : Rows → Rows → List ℤ → ℕ → ℕ → ℤ → State
half_at below above rows from to row = if int_lt row (slice_index_or rows (middle from to) (pos 0))
    then state_at below rows from (middle from to) row else state_at above rows (middle from to) to
    row

-- no winding number lies in the gap
abbrev pub IsOutside : Gap → ℤ → Type 0
IsOutside gap w = (w ≤ℤ gap.down) ⊎ (gap.up ≤ℤ w)

-- each gap of a node of the indices between two is correct for its rows, and a node in halves has an index to halve it at
abbrev pub IsBuilt : Rows → List ℤ → ℕ → ℕ → Type 0
IsBuilt (Alike s) rows from to = Unit {0}
IsBuilt (Parted' p below above added gap) rows from to = (from + 1 < to)
    × IsBuilt below rows from (middle from to) × IsBuilt above rows (middle from to) to
    × ((row : ℤ) → IsOutside gap (state_at (Parted' p below above added gap) rows from to
    row).winding)

-- a number without its sign
unfoldable pub size_of : ℤ → ℤ
size_of z = int_max z (neg_ℤ z)

-- no winding number of the node is larger, with either sign, including what is still to be added
abbrev pub reach : Rows → ℤ
reach (Alike s) = size_of s.winding
reach (Parted' p below above added gap) =
    size_of added.winding +ℤ int_max (reach below) (reach above)
