-- The text of the styles of layers: their colours and patterns.
use Rattle.std.specs.Prelude.{ℕ, ◌/◌, nat_lt, List, [], ◌∷◌, ◌++◌, codes, if◌then◌else◌}
use Rattle.std.specs.List.{concat}
use Rattle.std.specs.Fmt.{decimal}
use Rattle.mpw_geom.specs.declared.plane.Box2.{Box2}
use Rattle.mpw_edges.specs.declared.run.Axis.TheVariants.{V}
use Rattle.mpw_firm_picture.specs.declared.look.Canvas.{Canvas}
use Rattle.mpw_firm_picture.specs.declared.look.Canvas.TheVariants.{Drawing, Legend}
use Rattle.mpw_firm_picture.specs.Looks.{colour_of, hatch_of, period_of, angle_of}
use Rattle.mpw_firm_picture.specs.Windows.{longer_side}

-- the letter of a pattern's canvas: the drawing is in nm, and the rows below it are in pixels
unfoldable pub canvas_letter : Canvas → List ℕ
canvas_letter Drawing = codes "d"
canvas_letter Legend = codes "g"

-- the layer at that index: one of the first twelve has its colour, and each other one its pattern
unfoldable pub plain_look : ℕ → List ℕ
plain_look place = concat (codes "class=\"l l" ∷ decimal place ∷ codes "\"" ∷ [])

unfoldable pub striped_look : Canvas → ℕ → List ℕ
striped_look canvas place =
    codes "class=\"l\" fill=\"url(#" ++ canvas_letter canvas
    ++ concat (decimal place ∷ codes ")\"" ∷ [])

unfoldable pub look_text : Canvas → ℕ → List ℕ
look_text canvas place =
    if nat_lt place 12 then plain_look place else striped_look canvas place

-- how many nm a pixel of the drawing has
unfoldable pub scale_text : Box2 → Canvas → List ℕ
scale_text w Drawing = concat (codes "scale(" ∷ decimal (longer_side w) ∷ codes "e-3) " ∷ [])
scale_text w Legend = []

-- a pattern: stripes in the layer's colour, as wide as the gaps between them
unfoldable pub stripes_head : ℕ → List ℕ
stripes_head place =
    concat
    (decimal place
    ∷ codes "\" width=\""
    ∷ decimal (period_of (hatch_of place))
    ∷ codes "\" height=\""
    ∷ decimal (period_of (hatch_of place))
    ∷ codes "\" patternUnits=\"userSpaceOnUse\" patternTransform=\""
    ∷ [])

unfoldable pub stripes_end : ℕ → List ℕ
stripes_end place =
    concat
    (codes "rotate("
    ∷ decimal (angle_of (hatch_of place))
    ∷ codes ")\"><path class=\"l"
    ∷ decimal (colour_of place)
    ∷ codes "\" d=\"M0 0H"
    ∷ decimal (period_of (hatch_of place) / 2)
    ∷ codes "V"
    ∷ decimal (period_of (hatch_of place))
    ∷ codes "H0Z\"/></pattern>\n"
    ∷ [])

unfoldable pub pattern_text : Box2 → ℕ → Canvas → List ℕ
pattern_text w place canvas =
    codes "<pattern id=\"" ++ canvas_letter canvas ++ stripes_head place ++ scale_text w canvas
    ++ stripes_end place

-- the patterns of the layer at that index, if it has some
unfoldable pub patterns_of : Box2 → ℕ → List ℕ
patterns_of w place =
    if nat_lt place 12 then [] else pattern_text w place Drawing ++ pattern_text w place Legend
