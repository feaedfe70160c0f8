-- The text around a drawing: the titles above it, and the window's coordinates at its edges.
use Rattle.std.specs.Prelude.{ℕ, ◌+◌, ◌==◌, List, [], ◌∷◌, ◌++◌, length, codes, slice_get, Option, None, Some, if◌then◌else◌}
use Rattle.std.specs.List.{concat}
use Rattle.std.specs.Fmt.{decimal, signed_decimal}
use Rattle.mpw_geom.specs.declared.plane.Box2.{Box2}
use Rattle.mpw_deck.specs.declared.rule.Rule.{Rule}
use Rattle.mpw_edges.specs.declared.run.Axis.{Axis}
use Rattle.mpw_edges.specs.declared.run.Axis.TheVariants.{V, H}
use Rattle.mpw_edges.specs.declared.run.Piece.{Piece}
use Rattle.mpw_markers.specs.declared.marker.Key.{Key}
use Rattle.mpw_firm_report.specs.Escapes.{escaped}
use Rattle.mpw_firm_report.specs.Report.{rule_text}
use Rattle.mpw_firm_picture.specs.declared.part.Part.TheVariants.{Dense}
use Rattle.mpw_firm_picture.specs.declared.picture.Picture.{Picture}
use Rattle.mpw_firm_picture.specs.Parts.{part_text}
use Rattle.mpw_firm_picture.specs.Sizes.{drawing_breadth, drawing_height}

-- ---- the window's coordinates at the edges of the drawing

unfoldable pub rows_text : Box2 → List ℕ
rows_text w =
    concat
    (codes "<text x=\"-8\" y=\"4\" text-anchor=\"end\">y "
    ∷ signed_decimal w.y1
    ∷ codes " nm</text>\n<text x=\"-8\" y=\""
    ∷ decimal (drawing_height w + 20)
    ∷ codes "\" text-anchor=\"end\">y "
    ∷ signed_decimal w.y0
    ∷ codes " nm</text>\n"
    ∷ [])

unfoldable pub columns_text : Box2 → List ℕ
columns_text w =
    concat
    (codes "<text y=\""
    ∷ decimal (drawing_height w + 40)
    ∷ codes "\" text-anchor=\"end\">x "
    ∷ signed_decimal w.x0
    ∷ codes " nm</text>\n<text x=\""
    ∷ decimal (drawing_breadth w)
    ∷ codes "\" y=\""
    ∷ decimal (drawing_height w + 40)
    ∷ codes "\">x "
    ∷ signed_decimal w.x1
    ∷ codes " nm</text>\n"
    ∷ [])

unfoldable pub edges_text : Box2 → List ℕ
edges_text w = rows_text w ++ columns_text w

-- ---- the titles

-- the end of a marker's key, after its rule's name
unfoldable pub axis_text : Axis → List ℕ
axis_text V = codes ":V:"
axis_text H = codes ":H:"

unfoldable pub places_text : Piece → List ℕ
places_text p =
    concat
    (decimal p.side
    ∷ codes ":"
    ∷ signed_decimal p.x1
    ∷ codes ":"
    ∷ signed_decimal p.x2
    ∷ codes ":"
    ∷ signed_decimal p.y0
    ∷ codes ":"
    ∷ signed_decimal p.y1
    ∷ codes ", "
    ∷ [])

-- the selected marker: its key, and its rule as the deck has it; only if the deck has its rule
unfoldable pub key_title : Rule → Key → List ℕ
key_title rule k =
    codes "<text x=\"-160\" y=\"-42\">" ++ escaped rule.name ++ axis_text k.piece.axis
    ++ places_text k.piece
    ++ rule_text rule
    ++ codes "</text>\n"

abbrev pub title_under : Option Rule → Key → List ℕ
title_under None k = []
title_under (Some rule) k = key_title rule k

unfoldable pub wanted_title : List Rule → Option Key → List ℕ
wanted_title rules None = []
wanted_title rules (Some k) = title_under (slice_get rules k.rule) k

-- the title that says how many markers are drawn as a density
unfoldable pub dense_text : ℕ → List ℕ
dense_text count =
    concat (codes "<text x=\"-160\" y=\"-18\">" ∷ decimal count ∷ []) ++ part_text Dense

unfoldable pub dense_title : Picture → List ℕ
dense_title p = if length p.counts.items == 0 then [] else dense_text (length p.marks.items)

unfoldable pub titles_text : List Rule → List ℕ → Picture → List ℕ
titles_text rules top p =
    codes "<text x=\"-160\" y=\"-66\" font-size=\"20\">" ++ escaped top ++ codes "</text>\n"
    ++ wanted_title rules p.wanted
    ++ dense_title p
