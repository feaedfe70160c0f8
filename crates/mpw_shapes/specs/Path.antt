-- The unit squares of a path (GDSII Stream release 6, PATH): one rectangle for each segment of the centre line.
use Rattle.std.specs.Prelude.{Bool, ℤ, pos, ◌+ℤ◌, ◌-ℤ◌, int_lt, int_div, if◌then◌else◌, List, [], ◌∷◌}
use Rattle.std.specs.Ordering.{int_eq}
use Rattle.mpw_geom.specs.declared.plane.Box2.{Box2}
use Rattle.mpw_geom.specs.declared.plane.Point.{Point}
use Rattle.mpw_geom.specs.Plane.{Square, any_has_square}
use Rattle.mpw_structures.specs.declared.element.Path.{Path}

-- the segment from p to q, extended by `before` at p and by `behind` at q, with half the width on each side
unfoldable pub wire_box : ℤ → ℤ → ℤ → Point → Point → Box2
wire_box half before behind p q =
    if int_eq p.y q.y then
    (if int_lt p.x q.x
    then record { x0 = p.x -ℤ before; y0 = p.y -ℤ half; x1 = q.x +ℤ behind; y1 = p.y +ℤ half }
    else record { x0 = q.x -ℤ behind; y0 = p.y -ℤ half; x1 = p.x +ℤ before; y1 = p.y +ℤ half })
    else
    (if int_lt p.y q.y
    then record { x0 = p.x -ℤ half; y0 = p.y -ℤ before; x1 = p.x +ℤ half; y1 = q.y +ℤ behind }
    else record { x0 = p.x -ℤ half; y0 = q.y -ℤ behind; x1 = p.x +ℤ half; y1 = p.y +ℤ before })

-- the boxes of a centre line: extended by half the width at inner points, by `before` at the first point and by `end` at the last
unfoldable pub wire_boxes : ℤ → ℤ → ℤ → List Point → List Box2
wire_boxes half before end [] = []
wire_boxes half before end (p ∷ []) = []
wire_boxes half before end (p ∷ q ∷ []) = wire_box half before end p q ∷ []
wire_boxes half before end (p ∷ q ∷ r ∷ ps) =
    wire_box half before half p q ∷ wire_boxes half half end (q ∷ r ∷ ps)

-- the path has the unit square; a box without area has none
unfoldable pub path_has : Path → Square → Bool
path_has path s =
    any_has_square (wire_boxes (int_div path.width (pos 2)) path.begin path.end path.points) s
