-- Displacements across the edges of an axis. The rows stay the same.
use Rattle.std.specs.Prelude.{◌≡◌, ◌+◌, ℕ, ℤ, pos, ◌+ℤ◌, ◌≤ℤ◌, ◌<ℤ◌, List, Contains}
use Rattle.mpw_geom.specs.declared.plane.Box2.{Box2}
use Rattle.mpw_geom.specs.declared.plane.Layer.{Layer}
use Rattle.mpw_geom.specs.declared.plane.Point.{Point}
use Rattle.mpw_edges.specs.declared.run.Axis.{Axis}
use Rattle.mpw_edges.specs.declared.run.Axis.TheVariants.{V, H}
use Rattle.mpw_edges.specs.Edges.{Squares}
use Rattle.mpw_tiles.specs.Snapshots.{Snapshot, shown}
use Rattle.mpw_job.specs.Computed.{shown_on}
use Rattle.mpw_job.specs.Layers.{Coverage}
use Rattle.mpw_columns_keys.specs.declared.column.Column.{Column}
use Rattle.mpw_columns_keys.specs.Columns.{seen_box, upright, across}
use Rattle.mpw_columns.specs.Seen.{seen_on}

-- The box, displaced.
abbrev pub displaced : ℤ → Box2 → Box2
displaced by b = record { x0 = b.x0 +ℤ by; y0 = b.y0; x1 = b.x1 +ℤ by; y1 = b.y1 }

-- The displacement of the layout that is this displacement across the edges of the axis.
abbrev pub across_edges : Axis → ℤ → Point
across_edges V by = record { x = by; y = pos 0 }
across_edges H by = record { x = pos 0; y = by }

-- The second column is the first, displaced.
pub record IsDisplaced (by : ℤ) (c e : Column) : Type 0 where
  pub axis : e.axis ≡ c.axis
  pub from : e.from ≡ (c.from +ℤ by)
  pub to : e.to ≡ (c.to +ℤ by)

-- In the window, the second has exactly what the first has, displaced.
abbrev pub AreDisplacedIn : Box2 → ℤ → Squares → Squares → Type 0
AreDisplacedIn window by a b = (i j : ℤ) → window.x0 ≤ℤ i → i <ℤ window.x1 → window.y0 ≤ℤ j
    → j <ℤ window.y1 → b (i +ℤ by) j ≡ a i j

-- The same on each of these layers.
abbrev pub AreDisplacedOn : List Layer → Box2 → ℤ → Coverage → Coverage → Type 0
AreDisplacedOn layers window by on other =
    (layer : Layer) → Contains layers layer → AreDisplacedIn window by (on layer) (other layer)

-- On these layers, the layout of that extent has in the displaced column's window exactly what it has in the column's window, displaced. The
-- windows exceed the columns by the given distance plus 1.
abbrev pub ShowsDisplaced : Snapshot → Box2 → List Layer → ℕ → ℤ → Column → Type 0
ShowsDisplaced s extent layers greatest by c =
    AreDisplacedOn layers (across (upright (seen_box c.axis extent) c) (greatest + 1)) by
    (seen_on c.axis (shown_on (shown s))) (seen_on c.axis (shown_on (shown s)))
