-- Which lines and rows lie in a column.
use Rattle.std.specs.Prelude.{ℤ, ◌&&◌, Bool}
use Rattle.mpw_geom.specs.declared.plane.Box2.{Box2}
use Rattle.mpw_geom.specs.Plane.{has_square}
use Rattle.mpw_markers.specs.declared.marker.Line.{Line}
use Rattle.mpw_markers.specs.Markers.{axis_eq}
use Rattle.mpw_columns_keys.specs.declared.column.Column.{Column}
use Rattle.mpw_columns_keys.specs.Columns.{seen_box, upright}

-- The row of the line lies in the core of the column of the extent: seen along the column's axis, the point (x1, j) does.
abbrev pub is_in_column : Box2 → Column → Line → ℤ → Bool
is_in_column extent c line j = axis_eq line.axis c.axis
    && has_square (upright (seen_box c.axis extent) c) (record { column = line.x1; row = j })
