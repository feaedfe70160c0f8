-- The text below a drawing: the scale bar, and a row for each rule.
use Rattle.std.specs.Prelude.{ℕ, pos, ◌+◌, ◌*◌, ◌==◌, min, List, [], ◌∷◌, ◌++◌, length, codes, if◌then◌else◌}
use Rattle.std.specs.List.{concat, flat_map, enumerate_from}
use Rattle.std.specs.Fmt.{decimal}
use Rattle.mpw_geom.specs.declared.plane.Box2.{Box2}
use Rattle.mpw_geom.specs.declared.plane.Layer.{Layer}
use Rattle.mpw_deck.specs.declared.rule.Check.{Check}
use Rattle.mpw_deck.specs.declared.rule.Check.TheVariants.{Width, Space, Separation, Enclosing}
use Rattle.mpw_deck.specs.declared.rule.Rule.{Rule}
use Rattle.mpw_firm_report.specs.Lengths.{micrometres}
use Rattle.mpw_firm_report.specs.Report.{rule_text, left_out_text}
use Rattle.mpw_firm_picture.specs.declared.look.Canvas.TheVariants.{Legend}
use Rattle.mpw_firm_picture.specs.declared.picture.Picture.{Picture}
use Rattle.mpw_firm_picture.specs.Density.{of_rule}
use Rattle.mpw_firm_picture.specs.Looks.{place_of, rule_colour}
use Rattle.mpw_firm_picture.specs.Sizes.{drawing_height, bar_length}
use Rattle.mpw_firm_picture.specs.Windows.{longer_side}
use Rattle.mpw_firm_picture.specs.Patterns.{look_text}

-- the bar, in nm of a view that is as long as the window's longer side
unfoldable pub bar_line : Box2 → List ℕ
bar_line w =
    concat
    (codes " &#181;m</text><svg x=\"90\" y=\"16\" width=\"1000\" height=\"8\" viewBox=\"0 0 "
    ∷ decimal (longer_side w)
    ∷ codes " 1\" preserveAspectRatio=\"none\"><rect width=\""
    ∷ decimal (bar_length w)
    ∷ codes "\" height=\"1\"/></svg>\n"
    ∷ [])

unfoldable pub bar_text : Box2 → List ℕ
bar_text w = codes "<text y=\"24\">" ++ micrometres (pos (bar_length w)) ++ bar_line w

-- a sample of a layer's style, at a distance from the left in pixels
unfoldable pub swatch : List Layer → ℕ → Layer → List ℕ
swatch layers x l =
    codes "<rect " ++ look_text Legend (place_of layers l)
    ++ concat (codes " x=\"" ∷ decimal x ∷ codes "\" width=\"20\" height=\"16\"/>" ∷ [])

unfoldable pub swatches : List Layer → Check → List ℕ
swatches layers (Width layer) = swatch layers 28 layer
swatches layers (Space layer) = swatch layers 28 layer
swatches layers (Separation first second) = swatch layers 28 first ++ swatch layers 52 second
swatches layers (Enclosing outer inner) = swatch layers 28 outer ++ swatch layers 52 inner

-- the most markers of a rule that are drawn: all, if they are drawn as a density
unfoldable pub limit_of : Picture → ℕ
limit_of p = if length p.counts.items == 0 then p.limit else length p.marks.items

-- the row of the rule at that index in the deck
unfoldable pub row_head : ℕ → List ℕ
row_head place =
    concat
    (codes "<g transform=\"translate(0 "
    ∷ decimal (40 + 24 * place)
    ∷ codes ")\"><path class=\"m m"
    ∷ decimal (rule_colour place)
    ∷ codes "\" stroke-width=\"2\" d=\"M1 1H19V15H1Z\"/>"
    ∷ [])

unfoldable pub row_end : (count limit : ℕ) → List ℕ
row_end count limit =
    concat (codes ": " ∷ decimal (min count limit) ∷ []) ++ left_out_text count limit
    ++ codes "</text></g>\n"

unfoldable pub row_text : Picture → ℕ × Rule → List ℕ
row_text p row =
    row_head row.0 ++ swatches p.layers.items row.1.check ++ codes "<text x=\"90\" y=\"13\">"
    ++ rule_text row.1
    ++ row_end (length (of_rule p.marks.items row.0)) (limit_of p)

unfoldable pub legend_head : Box2 → List ℕ
legend_head w =
    concat
    (codes "<g transform=\"translate(0 " ∷ decimal (drawing_height w + 50) ∷ codes ")\">\n" ∷ [])

unfoldable pub legend_text : List Rule → Picture → List ℕ
legend_text rules p =
    legend_head p.window ++ bar_text p.window ++ flat_map (row_text p) (enumerate_from 0 rules)
