-- The columns into which a layout is cut.
use Rattle.std.specs.Prelude.{◌≡◌, pos, ◌+ℤ◌, ◌≤ℤ◌, ◌<ℤ◌, List, [], ◌++◌, Option, Some, None}
use Rattle.mpw_geom.specs.declared.plane.Box2.{Box2}
use Rattle.mpw_edges.specs.declared.run.Axis.TheVariants.{V, H}
use Rattle.mpw_columns_keys.specs.declared.column.Column.{Column}
use Rattle.mpw_columns_keys.specs.Columns.{seen_box, AreColumnsOf}
use Rattle.mpw_tiles.specs.Snapshots.{Snapshot, shown_extent}

-- Columns of axis V and columns of axis H that cover an extent; none if there is no extent.
abbrev pub Cover : Option Box2 → (upright across : List Column) → Type 0
Cover None upright across = (upright ≡ []) × (across ≡ [])
Cover (Some extent) upright across = AreColumnsOf V extent upright × AreColumnsOf H extent across

-- Columns that cover a layout's extent; none if the layout has no shapes.
abbrev pub CoverLayout : Snapshot → (upright across : List Column) → Type 0
CoverLayout s upright across = Cover (shown_extent s) upright across

-- The columns of both axes that cover the layout: those of V, and after them those of H.
pub record AreColumnsOfLayout (s : Snapshot) (columns : List Column) : Type 0 where
  pub upright : List Column
  pub across : List Column
  pub are : columns ≡ upright ++ across
  pub cover : CoverLayout s upright across

-- The column has some position, and each of its positions is one that an edge of the layout can have.
pub record IsColumnWithin (s : Snapshot) (c : Column) : Type 0 where
  pub extent : Box2
  pub extent_is : shown_extent s ≡ Some extent
  pub left : (seen_box c.axis extent).x0 ≤ℤ c.from
  pub some : c.from <ℤ c.to
  pub right : c.to ≤ℤ ((seen_box c.axis extent).x1 +ℤ pos 1)
