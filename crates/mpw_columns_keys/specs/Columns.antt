-- Columns of an extent: half-open cores over all of its rows. On axis H a column is a core over all of its columns.
use Rattle.std.specs.Prelude.{◌≡◌, ℕ, ℤ, pos, ◌+ℤ◌, ◌-ℤ◌, ◌<ℤ◌, List, [], ◌∷◌}
use Rattle.mpw_geom.specs.declared.plane.Box2.{Box2}
use Rattle.mpw_region.specs.Exchange.{exchanged_box}
use Rattle.mpw_edges.specs.declared.run.Axis.{Axis}
use Rattle.mpw_edges.specs.declared.run.Axis.TheVariants.{V, H}
use Rattle.mpw_columns_keys.specs.declared.column.Column.{Column}

-- A box as it is seen along an axis: on V as it is, on H with the coordinates exchanged. So the edges are always vertical.
abbrev pub seen_box : Axis → Box2 → Box2
seen_box V b = b
seen_box H b = exchanged_box b

-- The core of a column of an extent, both seen along the column's axis: the column's positions, and the extent's rows.
abbrev pub upright : Box2 → Column → Box2
upright extent c = record { x0 = c.from; y0 = extent.y0; x1 = c.to; y1 = extent.y1 }

-- The core of a column of an extent.
abbrev pub core_of : Box2 → Column → Box2
core_of extent c = seen_box c.axis (upright (seen_box c.axis extent) c)

-- The box, wider to the left and to the right, and no wider up or down.
abbrev pub across : Box2 → ℕ → Box2
across b n = record { x0 = b.x0 -ℤ pos n; y0 = b.y0; x1 = b.x1 +ℤ pos n; y1 = b.y1 }

-- The same along an axis: on H wider down and up.
abbrev pub widened_along : Axis → Box2 → ℕ → Box2
widened_along axis b n = seen_box axis (across (seen_box axis b) n)

-- Columns of the axis, each with some position, which are adjacent from low to before high.
abbrev pub AreColumns : Axis → (low high : ℤ) → List Column → Type 0
AreColumns axis low high [] = low ≡ high
AreColumns axis low high (c ∷ cs) =
    (c.axis ≡ axis) × (c.from ≡ low) × (c.from <ℤ c.to) × AreColumns axis c.to high cs

-- Columns of an extent: each position that an edge can have, including the last, lies in one of them.
abbrev pub AreColumnsOf : Axis → Box2 → List Column → Type 0
AreColumnsOf axis extent columns =
    AreColumns axis (seen_box axis extent).x0 ((seen_box axis extent).x1 +ℤ pos 1) columns
