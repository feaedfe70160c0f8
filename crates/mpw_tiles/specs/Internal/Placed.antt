-- For private functions and proofs: placed rectangles, cut to the plane.
use Rattle.mpw_geom.specs.declared.plane.Point.{Point}
use Rattle.mpw_tiles.specs.Placed.{nearest}

abbrev pub nearest_point : Point → Point
nearest_point p = record { x = nearest p.x; y = nearest p.y }
