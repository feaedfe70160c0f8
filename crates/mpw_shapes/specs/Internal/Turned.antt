-- A node of rows before an edge and after it.
use Rattle.std.specs.Prelude.{◌≡◌, ℕ, ◌+◌, ◌<◌, ◌&&◌, ◌||◌, ℤ, pos, ◌+ℤ◌, ◌≤ℤ◌, ◌<ℤ◌, List, All, length, slice_index_or}
use Rattle.mpw_geom.specs.declared.plane.Box2.{Box2}
use Rattle.mpw_geom.specs.Plane.{Square, HasArea, any_has_square}
use Rattle.mpw_shapes.specs.declared.edge.Edge.{Edge}
use Rattle.mpw_shapes.specs.declared.rows.Rows.{Rows}
use Rattle.mpw_shapes.specs.Internal.Edges.{IsClear, is_between}
use Rattle.mpw_shapes.specs.Internal.Rows.{IsBuilt, closes, crosses, reach, right_of, state_at}

-- the edge has no end strictly between two neighbouring rows
abbrev pub IsClearIn : List ℤ → Edge → Type 0
IsClearIn rows e = (k : ℕ) → k + 1 < length rows
    → IsClear (slice_index_or rows k (pos 0)) (slice_index_or rows (k + 1) (pos 0)) e

-- the node's rows are turned by the edge, and the boxes have the squares that it closes in them
pub record Turned (rows : List ℤ) (from to : ℕ) (e : Edge) (old new : Rows)
    (before after : List Box2) : Type 0 where
  pub states : (row : ℤ) → slice_index_or rows from (pos 0) ≤ℤ row
      → row <ℤ slice_index_or rows to (pos 0)
      → state_at new rows from to row ≡ right_of e row (state_at old rows from to row)
  pub squares : (s : Square) → any_has_square after s
      ≡ (any_has_square before s || (is_between (slice_index_or rows from (pos 0))
      (slice_index_or rows to (pos 0)) s.row
      && (crosses e s.row && closes e (state_at old rows from to s.row) s.column)))
  pub built : IsBuilt new rows from to
  pub near : reach new ≤ℤ (reach old +ℤ pos 1)
  pub area : All HasArea after
