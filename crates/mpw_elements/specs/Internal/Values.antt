-- For private functions and proofs: the values of a record, and their faults.
use Rattle.std.specs.Prelude.{◌<◌, ◌^◌, unsigned_abs}
use Rattle.mpw_geom.specs.declared.plane.Point.{Point}
use Rattle.mpw_structures.specs.Element.{IsPointWithinReach}
use Rattle.mpw_elements.specs.declared.values.Grid.{Grid}

-- A point of a four-byte XY, at a unit of at most 1000 nm.
pub record IsNear (p : Point) : Type 0 where
  pub x : unsigned_abs p.x < 2 ^ 42
  pub y : unsigned_abs p.y < 2 ^ 42

-- The origin and the steps of an array are within reach.
pub record IsGrid (g : Grid) : Type 0 where
  pub origin : IsPointWithinReach g.origin
  pub column_step : IsPointWithinReach g.column_step
  pub row_step : IsPointWithinReach g.row_step
