-- The text of markers in a drawing: one by one or as a density, and the selected one.
use Rattle.std.specs.Prelude.{ℕ, ◌+◌, ◌*◌, ◌/◌, ◌%◌, ◌==◌, min, List, [], ◌∷◌, ◌++◌, length, take, codes, Option, None, Some, if◌then◌else◌}
use Rattle.std.specs.List.{concat, flat_map, enumerate_from}
use Rattle.std.specs.Fmt.{decimal, signed_decimal}
use Rattle.mpw_geom.specs.declared.plane.Box2.{Box2}
use Rattle.mpw_deck.specs.declared.rule.Rule.{Rule}
use Rattle.mpw_edges.specs.declared.run.Axis.TheVariants.{V, H}
use Rattle.mpw_markers.specs.declared.marker.Key.{Key}
use Rattle.mpw_edges.specs.Pieces.{box_of}
use Rattle.mpw_firm_report.specs.Escapes.{escaped}
use Rattle.mpw_firm_picture.specs.declared.picture.Mark.{Mark}
use Rattle.mpw_firm_picture.specs.declared.picture.Picture.{Picture}
use Rattle.mpw_firm_picture.specs.declared.size.Corners.{Corners}
use Rattle.mpw_firm_picture.specs.Density.{of_rule, cell_side}
use Rattle.mpw_firm_picture.specs.Looks.{rule_colour}
use Rattle.mpw_firm_picture.specs.Sizes.{line_breadth, ring_margin, is_small, turned}
use Rattle.mpw_firm_picture.specs.Windows.{side, widened_in_plane}

-- a marker: its box, filled and with a line around it
unfoldable pub outline : Corners → List ℕ
outline c =
    concat
    (codes "<path d=\"M"
    ∷ signed_decimal c.left
    ∷ codes " "
    ∷ signed_decimal c.top
    ∷ codes "H"
    ∷ signed_decimal c.right
    ∷ codes "V"
    ∷ signed_decimal c.bottom
    ∷ codes "H"
    ∷ signed_decimal c.left
    ∷ codes "Z\"/>\n"
    ∷ [])

unfoldable pub mark_text : Box2 → Mark → List ℕ
mark_text w m = outline (turned w m.area)

-- the group of the rule at that index, with its name, which a viewer shows next to the pointer
unfoldable pub group_head : ℕ → List ℕ
group_head place =
    concat (codes "<g class=\"m m" ∷ decimal (rule_colour place) ∷ codes "\"><title>" ∷ [])

-- its first markers
unfoldable pub group_text : Picture → ℕ × Rule → List ℕ
group_text p row =
    group_head row.0 ++ escaped row.1.name ++ codes "</title>\n"
    ++ flat_map (mark_text p.window) (take p.limit (of_rule p.marks.items row.0))
    ++ codes "</g>\n"

-- a density: a square in which markers lie, darker the more digits their number has, in nm from the window's lower left corner to the
-- right and upwards
abbrev pub shade : ℕ → ℕ
shade count = 5 + 15 * min (length (decimal count)) 6

unfoldable pub square_text : Box2 → (cell count : ℕ) → List ℕ
square_text w cell count =
    concat
    (codes "<rect x=\""
    ∷ decimal ((cell % 50) * cell_side w)
    ∷ codes "\" y=\""
    ∷ decimal ((cell / 50) * cell_side w)
    ∷ codes "\" width=\""
    ∷ decimal (cell_side w)
    ∷ codes "\" height=\""
    ∷ decimal (cell_side w)
    ∷ codes "\" fill-opacity=\"."
    ∷ decimal (shade count)
    ∷ codes "\"><title>"
    ∷ decimal count
    ∷ codes "</title></rect>\n"
    ∷ [])

abbrev pub cell_text : Box2 → ℕ × ℕ → List ℕ
cell_text w row = if row.1 == 0 then [] else square_text w row.0 row.1

unfoldable pub density_head : Box2 → List ℕ
density_head w =
    concat
    (codes "<g fill=\"#a00000\" shape-rendering=\"crispEdges\" transform=\"matrix(1 0 0 -1 0 "
    ∷ decimal (side w.y0 w.y1)
    ∷ codes ")\">\n"
    ∷ [])

unfoldable pub density_text : Picture → List ℕ
density_text p =
    density_head p.window ++ flat_map (cell_text p.window) (enumerate_from 0 p.counts.items)
    ++ codes "</g>\n"

-- the markers: one by one if no squares are counted
unfoldable pub shown_text : List Rule → Picture → List ℕ
shown_text rules p =
    if length p.counts.items == 0 then flat_map (group_text p) (enumerate_from 0 rules)
    else density_text p

-- the selected marker
unfoldable pub wanted_head : ℕ → List ℕ
wanted_head place =
    concat (codes "<g class=\"m m" ∷ decimal (rule_colour place) ∷ codes "\">\n" ∷ [])

-- a ring around it
unfoldable pub ring_at : (margin : ℕ) → Corners → Box2 → List ℕ
ring_at margin c area =
    concat
    (codes "<rect class=\"w\" x=\""
    ∷ signed_decimal c.left
    ∷ codes "\" y=\""
    ∷ signed_decimal c.top
    ∷ codes "\" width=\""
    ∷ decimal (side area.x0 area.x1)
    ∷ codes "\" height=\""
    ∷ decimal (side area.y0 area.y1)
    ∷ codes "\" rx=\""
    ∷ decimal margin
    ∷ codes "\"/>\n"
    ∷ [])

unfoldable pub ring_text : Box2 → Box2 → List ℕ
ring_text w area =
    ring_at (ring_margin w) (turned w (widened_in_plane (ring_margin w) area))
    (widened_in_plane (ring_margin w) area)

-- an arrow to it, from the upper left, whose head has two strokes
unfoldable pub shaft_text : (tail tip : Corners) → List ℕ
shaft_text tail tip =
    concat
    (codes "<path class=\"w\" d=\"M"
    ∷ signed_decimal tail.left
    ∷ codes " "
    ∷ signed_decimal tail.top
    ∷ codes "L"
    ∷ signed_decimal tip.left
    ∷ codes " "
    ∷ signed_decimal tip.top
    ∷ [])

unfoldable pub barbs_text : (head tip : Corners) → List ℕ
barbs_text head tip =
    concat
    (codes "M"
    ∷ signed_decimal head.left
    ∷ codes " "
    ∷ signed_decimal tip.top
    ∷ codes "H"
    ∷ signed_decimal tip.left
    ∷ codes "V"
    ∷ signed_decimal head.top
    ∷ codes "\"/>\n"
    ∷ [])

unfoldable pub arrow_at : (tail head tip : Corners) → List ℕ
arrow_at tail head tip = shaft_text tail tip ++ barbs_text head tip

unfoldable pub arrow_text : Box2 → Box2 → List ℕ
arrow_text w area =
    arrow_at (turned w (widened_in_plane (7 * ring_margin w) area))
    (turned w (widened_in_plane (3 * ring_margin w) area))
    (turned w (widened_in_plane (ring_margin w) area))

-- both: the ring, and the arrow if the marker is smaller than five pixels
unfoldable pub pointers_text : Box2 → Box2 → List ℕ
pointers_text w area = ring_text w area ++ (if is_small w area then arrow_text w area else [])

unfoldable pub wanted_mark : Box2 → Key → List ℕ
wanted_mark w key =
    wanted_head key.rule ++ outline (turned w (box_of key.piece)) ++ codes "</g>\n"
    ++ pointers_text w (box_of key.piece)

unfoldable pub wanted_text : Box2 → Option Key → List ℕ
wanted_text w None = []
wanted_text w (Some key) = wanted_mark w key

unfoldable pub marks_head : Box2 → List ℕ
marks_head w = concat (codes "<g stroke-width=\"" ∷ decimal (line_breadth w) ∷ codes "\">\n" ∷ [])

unfoldable pub marks_text : List Rule → Picture → List ℕ
marks_text rules p =
    marks_head p.window ++ shown_text rules p ++ wanted_text p.window p.wanted
    ++ codes "</g>\n</svg>\n"
