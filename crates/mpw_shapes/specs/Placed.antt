-- The unit squares of a placed element are the placed unit squares of the element.
use Rattle.std.specs.Prelude.{◌≡◌, IsTrue, List, map}
use Rattle.mpw_geom.specs.declared.plane.Point.{Point}
use Rattle.mpw_geom.specs.declared.placing.Placing.{Placing}
use Rattle.mpw_geom.specs.Plane.{Square}
use Rattle.mpw_geom.specs.Placing.{placed_point, placed_square}
use Rattle.mpw_structures.specs.Element.{closed, each_step, is_manhattan_step, is_segment}
use Rattle.mpw_structures.specs.declared.element.Path.{Path}
use Rattle.mpw_shapes.specs.Boundary.{boundary_has}
use Rattle.mpw_shapes.specs.Path.{path_has}

-- the squares of a placed boundary are the placed squares of the boundary
abbrev pub BoundarySquaresArePlaced : Type 0
BoundarySquaresArePlaced = (t : Placing) (corners : List Point) (s : Square)
    → IsTrue (each_step is_manhattan_step (closed corners))
    → boundary_has (map (placed_point t) corners) (placed_square t s) ≡ boundary_has corners s

-- the squares of a placed path are the placed squares of the path
abbrev pub PathSquaresArePlaced : Type 0
PathSquaresArePlaced = (t : Placing) (path : Path) (s : Square)
    → IsTrue (each_step is_segment path.points)
    → path_has (record path { points = map (placed_point t) path.points }) (placed_square t s)
    ≡ path_has path s
