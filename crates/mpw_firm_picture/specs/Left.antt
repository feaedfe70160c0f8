-- The text of the elements that are left out of a picture for their faults.
use Rattle.std.specs.Prelude.{ℕ, ◌+◌, ◌*◌, ◌==◌, List, [], ◌∷◌, ◌++◌, length, codes, if◌then◌else◌}
use Rattle.std.specs.List.{concat, flat_map}
use Rattle.std.specs.Fmt.{decimal}
use Rattle.mpw_geom.specs.declared.plane.Box2.{Box2}
use Rattle.mpw_firm_picture.specs.declared.picture.Picture.{Picture}
use Rattle.mpw_firm_picture.specs.Marked.{outline}
use Rattle.mpw_firm_picture.specs.Sizes.{line_breadth, turned}

-- their boxes
abbrev pub left_boxes : Box2 → List Box2 → List ℕ
left_boxes w boxes = flat_map (λ b. outline (turned w b)) boxes

unfoldable pub left_head : Box2 → List ℕ
left_head w =
    concat
    (codes "<g stroke-width=\""
    ∷ decimal (line_breadth w)
    ∷ codes
    "\" fill=\"#ffd400\" fill-opacity=\".4\" stroke=\"#000\"><title>an element that is left out for its fault</title>\n"
    ∷ [])

unfoldable pub left_group : Box2 → List Box2 → List ℕ
left_group w boxes = left_head w ++ left_boxes w boxes ++ codes "</g>\n"

-- nothing if none are left out
unfoldable pub left_text : Picture → List ℕ
left_text p = if p.left_all == 0 then [] else left_group p.window p.left_out.items

-- ---- the legend

-- the rows: one for each rule, and one for these elements if there are some
abbrev pub row_count : (rules : ℕ) → Picture → ℕ
row_count rules p = if p.left_all == 0 then rules else rules + 1

-- how many of them are drawn, after the rows of the rules
unfoldable pub left_row_text : (rules drawn all : ℕ) → List ℕ
left_row_text rules drawn all =
    concat
    (codes "<g transform=\"translate(0 "
    ∷ decimal (40 + 24 * rules)
    ∷ codes
    ")\"><path fill=\"#ffd400\" fill-opacity=\".4\" stroke=\"#000\" stroke-width=\"2\" d=\"M1 1H19V15H1Z\"/><text x=\"90\" y=\"13\">elements left out for their faults: "
    ∷ decimal drawn
    ∷ codes " of "
    ∷ decimal all
    ∷ codes " drawn</text></g>\n"
    ∷ [])

unfoldable pub left_row : (rules : ℕ) → Picture → List ℕ
left_row rules p =
    if p.left_all == 0 then [] else left_row_text rules (length p.left_out.items) p.left_all
