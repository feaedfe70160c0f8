-- The least boxes that contain shapes, in nm.
use Rattle.std.specs.Prelude.{◌^◌, Bool, ◌&&◌, ℤ, pos, neg_ℤ, int_le, int_lt, int_div, List, [], ◌∷◌, filter, Option, Some, None, option_map}
use Rattle.mpw_geom.specs.declared.plane.Box2.{Box2}
use Rattle.mpw_geom.specs.declared.plane.Point.{Point}
use Rattle.mpw_geom.specs.declared.placing.Placing.{Placing}
use Rattle.mpw_geom.specs.Plane.{box_at, box_between, joined}
use Rattle.mpw_geom.specs.Placing.{placed_point}
use Rattle.mpw_structures.specs.declared.element.Element.{Element}
use Rattle.mpw_structures.specs.declared.element.Element.TheVariants as elements
use Rattle.mpw_shapes.specs.Path.{wire_boxes}
use Rattle.mpw_hier.specs.Items.{Item}

-- The least box that contains both; none if both are none.
abbrev pub hull : Option Box2 → Option Box2 → Option Box2
hull None b = b
hull (Some a) None = Some a
hull (Some a) (Some b) = Some (joined a b)

-- The least box that contains all of them; none if the list is empty.
unfoldable pub hull_of : List Box2 → Option Box2
hull_of [] = None
hull_of (b ∷ bs) = hull (Some b) (hull_of bs)

unfoldable pub hull_of_points : List Point → Option Box2
hull_of_points [] = None
hull_of_points (p ∷ ps) =
    hull (Some (box_at p)) (hull_of_points ps)

abbrev pub has_area : Box2 → Bool
has_area b = int_lt b.x0 b.x1 && int_lt b.y0 b.y1

-- The box of a boundary contains its points. That of a path contains its points, and those of its rectangles that have an area. A reference has none.
unfoldable pub element_box : Element → Option Box2
element_box (elements.Boundary b) = hull_of_points b.points
element_box (elements.Path p) =
    hull (hull_of_points p.points) (hull_of
    (filter has_area (wire_boxes (int_div p.width (pos 2)) p.begin p.end p.points)))
element_box (elements.Reference r) = None

-- The image of a box under a placing.
unfoldable pub placed_box : Placing → Box2 → Box2
placed_box t b = box_between (placed_point t (record { x = b.x0; y = b.y0 }))
    (placed_point t (record { x = b.x1; y = b.y1 }))

abbrev pub item_box : Item → Option Box2
item_box i = option_map (placed_box i.placing) (element_box i.element)

-- The extent of a flat list is the least box that contains the boxes of its items.
unfoldable pub extent_of : List Item → Option Box2
extent_of [] = None
extent_of (i ∷ is) = hull (item_box i) (extent_of is)

-- Both corners lie from -2^30 to 2^30.
abbrev pub is_near : ℤ → Bool
is_near z = int_le (neg_ℤ (pos (2 ^ 30))) z && int_le z (pos (2 ^ 30))

unfoldable pub is_box_near : Box2 → Bool
is_box_near b = is_near b.x0 && is_near b.y0 && is_near b.x1 && is_near b.y1
