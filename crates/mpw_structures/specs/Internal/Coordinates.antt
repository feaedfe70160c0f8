-- The points in a text that a list of points refers to.
use Rattle.std.specs.Prelude.{◌≡◌, ℕ, zero, suc, ◌+◌, ◌*◌, ◌^◌, ◌<◌, ◌≤◌, List, [], ◌∷◌, length}
use Rattle.mpw_geom.specs.declared.plane.Point.{Point}
use Rattle.mpw_structures.specs.declared.coordinates.Text.{Text}
use Rattle.mpw_structures.specs.declared.coordinates.Coordinates.{Coordinates}
use Rattle.mpw_structures.specs.declared.coordinates.Coordinates.TheVariants.{Shared, Own}
use Rattle.mpw_structures.specs.Coordinates.{point_from}

-- The points of a text from an offset on: the unit, the bytes, the offset and the number of points.
abbrev pub points_from : ℕ → List ℕ → ℕ → ℕ → List Point
points_from unit bytes at zero = []
points_from unit bytes at (suc n) = point_from unit bytes at ∷ points_from unit bytes (at + 8) n

abbrev pub points_in : Coordinates → ℕ → ℕ → List Point
points_in (Shared text) at count = points_from text.unit text.bytes.value.items at count
points_in (Own points) at count = points.items

-- The text has that many points there.
pub record IsWithin (text : Text) (at count : ℕ) : Type 0 where
  pub unit : text.unit ≤ 1000
  pub there : at + 8 * count ≤ length text.bytes.value.items

-- The text has exactly these points there.
pub record ArePoints (text : Text) (at count : ℕ) (points : List Point) : Type 0 where
  pub within : IsWithin text at count
  pub same : points_from text.unit text.bytes.value.items at count ≡ points

abbrev pub bytes_in : Coordinates → List ℕ
bytes_in (Shared text) = text.bytes.value.items
bytes_in (Own points) = []

abbrev pub HasUnit : Coordinates → Type 0
HasUnit (Shared text) = text.unit ≤ 1000
HasUnit (Own points) = Unit {0}

abbrev pub Fits : Coordinates → ℕ → ℕ → Type 0
Fits (Shared text) at count = IsWithin text at count
Fits (Own points) at count = Unit {0}

-- The number of points before one of them, and the number of all points.
pub record IsFrom (from count : ℕ) (ps : List Point) : Type 0 where
  pub all : count ≡ length ps
  pub within : from ≤ count
  pub bound : count < 2 ^ 64
