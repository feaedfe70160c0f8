-- Closed boxes that share a point.
use Rattle.std.specs.Prelude.{◌≡◌, ℕ, true}
use Rattle.mpw_geom.specs.declared.plane.Box2.{Box2}
use Rattle.mpw_geom.specs.declared.plane.Point.{Point}
use Rattle.mpw_geom.specs.Plane.{Square, closed_square, has_point}

-- the closed boxes share a point
abbrev pub Meet : Box2 → Box2 → Type 0
Meet a b = (p : Point) × (has_point a p ≡ true) × (has_point b p ≡ true)

-- a unit square of the origin, taken closed, touches the closed box
abbrev pub IsMet : (ℕ → Square → Type 0) → Box2 → ℕ → Type 0
IsMet has box origin = (s : Square) × has origin s × Meet (closed_square s) box
