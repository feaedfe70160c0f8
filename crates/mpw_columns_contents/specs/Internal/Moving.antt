-- For private functions and proofs: the displacements between entries.
use Rattle.std.specs.Prelude.{◌^◌, ◌≤ℤ◌, ℤ, pos, neg_ℤ, ◌-ℤ◌}
use Rattle.mpw_geom.specs.declared.plane.Point.{Point}

-- At most 2^49 nm, as the distance between two coordinates is.
pub record IsWay (z : ℤ) : Type 0 where
  pub low : neg_ℤ (pos (2 ^ 49)) ≤ℤ z
  pub high : z ≤ℤ pos (2 ^ 49)

pub record IsWayBetween (d : Point) : Type 0 where
  pub x : IsWay d.x
  pub y : IsWay d.y

abbrev pub way_between : Point → Point → Point
way_between p q = record { x = q.x -ℤ p.x; y = q.y -ℤ p.y }
