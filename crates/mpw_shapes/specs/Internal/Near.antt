-- Points of the tests.
use Rattle.std.specs.Prelude.{Bool, ◌&&◌, pos, neg_ℤ, int_le}
use Rattle.mpw_geom.specs.declared.plane.Point.{Point}

-- both coordinates lie from -1000 to 1000
abbrev pub is_near : Point → Bool
is_near p = (int_le (neg_ℤ (pos 1000)) p.x && int_le p.x (pos 1000))
    && (int_le (neg_ℤ (pos 1000)) p.y && int_le p.y (pos 1000))
