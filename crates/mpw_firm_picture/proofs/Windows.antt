-- Windows lie in the plane.
use Rattle.std.proofs.Common.{ℕ, ℤ, arith}
use Rattle.std.specs.Prelude.{◌-ℤ◌, ◌+ℤ◌, pos}
use Rattle.std.proofs.lemmas.Int.{ints, clamps}
use Rattle.mpw_geom.specs.declared.plane.Box2.{Box2}
use Rattle.mpw_geom.specs.Plane.{IsCoordinate, IsBoxInPlane}
use Rattle.mpw_tiles.specs.Placed.{nearest}
use Rattle.mpw_firm_picture.specs.Windows.{widened_in_plane}

nearest_lies : (z : ℤ) → IsCoordinate (nearest z)
nearest_lies z = record { low = omega (arith, ints, clamps); high = omega (arith, ints, clamps) }

pub widened_lies : (by : ℕ) (b : Box2) → IsBoxInPlane (widened_in_plane by b)
unfolding widened_in_plane
widened_lies by b = record {
  x0 = nearest_lies (b.x0 -ℤ pos by);
  y0 = nearest_lies (b.y0 -ℤ pos by);
  x1 = nearest_lies (b.x1 +ℤ pos by);
  y1 = nearest_lies (b.y1 +ℤ pos by);
}
