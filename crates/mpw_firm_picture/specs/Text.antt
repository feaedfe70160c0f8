-- The text of a picture in SVG 1.1, from rules, a name and the picture's values.
--
-- The titles are at the top. Below them is the drawing, 1000 pixels along its longer side, in nm of the window, with the window's coordinates at
-- its edges. Below it are the scale bar and a row for each rule: the colours of its markers and of its layers, its line of the deck, and how
-- many of its markers are drawn and left out. If elements are left out for their faults, they have a row after these.
use Rattle.std.specs.Prelude.{ℕ, ◌+◌, ◌*◌, List, [], ◌∷◌, ◌++◌, length, codes, if◌then◌else◌}
use Rattle.std.specs.List.{concat, flat_map, range_with_len, enumerate_from}
use Rattle.std.specs.Fmt.{decimal, signed_decimal}
use Rattle.mpw_geom.specs.declared.plane.Box2.{Box2}
use Rattle.mpw_geom.specs.declared.plane.Layer.{Layer}
use Rattle.mpw_deck.specs.declared.rule.Rule.{Rule}
use Rattle.mpw_tiles.specs.declared.listing.Rectangle.{Rectangle}
use Rattle.mpw_firm_report.specs.Escapes.{escaped}
use Rattle.mpw_firm_picture.specs.declared.part.Part.TheVariants.{Head, Title, LayerColours, RuleColours, Patterns, Ground, End}
use Rattle.mpw_firm_picture.specs.declared.look.Canvas.TheVariants.{Drawing}
use Rattle.mpw_firm_picture.specs.declared.picture.Picture.{Picture}
use Rattle.mpw_firm_picture.specs.declared.size.Corners.{Corners}
use Rattle.mpw_firm_picture.specs.Looks.{is_layer}
use Rattle.mpw_firm_picture.specs.Parts.{part_text}
use Rattle.mpw_firm_picture.specs.Sizes.{drawing_breadth, drawing_height, turned}
use Rattle.mpw_firm_picture.specs.Windows.{side}
use Rattle.mpw_firm_picture.specs.Left.{left_row, left_text, row_count}
use Rattle.mpw_firm_picture.specs.Marked.{marks_text}
use Rattle.mpw_firm_picture.specs.Patterns.{look_text, patterns_of}
use Rattle.mpw_firm_picture.specs.Rows.{legend_text}
use Rattle.mpw_firm_picture.specs.Titles.{titles_text, edges_text}

-- ---- the drawing

-- a rectangle, as a part of a path: from its upper left corner to the right, down, and back
unfoldable pub rectangle_at : Corners → Box2 → List ℕ
rectangle_at c area =
    concat
    (codes "M"
    ∷ signed_decimal c.left
    ∷ codes " "
    ∷ signed_decimal c.top
    ∷ codes "h"
    ∷ decimal (side area.x0 area.x1)
    ∷ codes "v"
    ∷ decimal (side area.y0 area.y1)
    ∷ codes "h-"
    ∷ decimal (side area.x0 area.x1)
    ∷ codes "z"
    ∷ [])

unfoldable pub rectangle_text : Box2 → Rectangle → List ℕ
rectangle_text w r = rectangle_at (turned w r.area) r.area

-- one of that layer
abbrev pub rectangle_of : Box2 → Layer → Rectangle → List ℕ
rectangle_of w layer r = if is_layer layer r.layer then rectangle_text w r else []

-- all those of the layer at that index, as one path
unfoldable pub layer_text : Picture → ℕ × Layer → List ℕ
layer_text p row =
    codes "<path " ++ look_text Drawing row.0 ++ codes " d=\""
    ++ flat_map (rectangle_of p.window row.1) p.rectangles.items
    ++ codes "\"/>\n"

-- the window's frame
unfoldable pub frame_text : Box2 → List ℕ
frame_text w =
    concat
    (codes "<svg width=\""
    ∷ decimal (drawing_breadth w)
    ∷ codes "\" height=\""
    ∷ decimal (drawing_height w)
    ∷ codes "\" viewBox=\"0 0 "
    ∷ decimal (side w.x0 w.x1)
    ∷ codes " "
    ∷ decimal (side w.y0 w.y1)
    ∷ codes
    "\" preserveAspectRatio=\"xMinYMin\">\n<rect width=\"100%\" height=\"100%\" fill=\"#f4f4f4\"/>\n"
    ∷ [])

-- the layers, the elements that are left out for their faults, and then the markers
unfoldable pub drawing_text : List Rule → Picture → List ℕ
drawing_text rules p =
    frame_text p.window ++ flat_map (layer_text p) (enumerate_from 0 p.layers.items)
    ++ left_text p
    ++ marks_text rules p

-- ---- the whole

-- the height of the whole: the titles, the drawing, the coordinates below it, the scale bar and the rows
unfoldable pub paper_text : (rows : ℕ) → Box2 → List ℕ
paper_text rows w = concat (decimal (drawing_height w + 188 + 24 * rows) ∷ [])

unfoldable pub head_text : List Rule → List ℕ → Picture → List ℕ
head_text rules top p =
    part_text Head ++ paper_text (row_count (length rules) p) p.window ++ part_text Title ++ escaped top
    ++ part_text LayerColours
    ++ part_text RuleColours
    ++ part_text Patterns
    ++ flat_map (patterns_of p.window) (range_with_len 0 (length p.layers.items))
    ++ part_text Ground

-- the picture of a structure of that name under these rules
unfoldable pub picture_text : List Rule → List ℕ → Picture → List ℕ
picture_text rules top p =
    head_text rules top p ++ titles_text rules top p ++ drawing_text rules p
    ++ edges_text p.window
    ++ legend_text rules p
    ++ left_row (length rules) p
    ++ part_text End
