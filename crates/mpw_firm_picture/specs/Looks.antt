-- The styles of layers and rules: the layers of a picture, which of twelve colours each has, how it is hatched, and the colour of a
-- rule.
use Rattle.std.specs.Prelude.{◌≡◌, true, nat_lt, ℕ, ◌+◌, ◌-◌, ◌*◌, ◌/◌, ◌%◌, ◌==◌, ◌&&◌, Bool, List, [], ◌∷◌, ◌++◌, length, fold, unwrap_or, if◌then◌else◌}
use Rattle.std.specs.List.{list_any, position}
use Rattle.mpw_deck.specs.declared.rule.Check.{Check}
use Rattle.mpw_deck.specs.declared.rule.Check.TheVariants.{Width, Space, Separation, Enclosing}
use Rattle.mpw_deck.specs.declared.rule.Rule.{Rule}
use Rattle.mpw_geom.specs.declared.plane.Layer.{Layer}
use Rattle.mpw_tiles.specs.declared.listing.Rectangle.{Rectangle}

-- ---- the layers of a picture: first those of its rules, and then those of its rectangles, each once

abbrev pub is_layer : Layer → Layer → Bool
is_layer a b = (a.layer == b.layer) && (a.datatype == b.datatype)

abbrev pub with_layer : List Layer → Layer → List Layer
with_layer layers l = if list_any (is_layer l) layers then layers else layers ++ l ∷ []

abbrev pub with_layers : List Layer → List Layer → List Layer
with_layers layers more = fold with_layer layers more

abbrev pub check_layers : Check → List Layer
check_layers (Width layer) = layer ∷ []
check_layers (Space layer) = layer ∷ []
check_layers (Separation first second) = first ∷ second ∷ []
check_layers (Enclosing outer inner) = outer ∷ inner ∷ []

abbrev pub with_rule : List Layer → Rule → List Layer
with_rule layers rule = with_layers layers (check_layers rule.check)

abbrev pub rule_layers : List Rule → List Layer
rule_layers rules = fold with_rule [] rules

abbrev pub layers_of : List Rule → List Rectangle → List Layer
layers_of rules rectangles = fold (λ layers r. with_layer layers r.layer) (rule_layers rules) rectangles

-- the index of a layer among them; their number if it isn't there
abbrev pub place_of : List Layer → Layer → ℕ
place_of layers l = unwrap_or (position (is_layer l) layers) (length layers)

-- ---- the style of the layer at an index

-- the number of its colour
unfoldable pub colour_of : ℕ → ℕ
colour_of place = place % 12

-- how many times all colours are used before it: 0 is drawn plainly, each other number with its own stripes
unfoldable pub hatch_of : ℕ → ℕ
hatch_of place = place / 12

-- the distance between its stripes, in pixels, and their angle, in degrees
unfoldable pub period_of : ℕ → ℕ
period_of hatch = 6 + 4 * ((hatch - 1) / 4)

unfoldable pub angle_of : ℕ → ℕ
angle_of hatch = 45 * ((hatch - 1) % 4)

-- a layer's style: its colour alone, or stripes in it with a distance and an angle
pub data Look : Type 0 where
  plain : (colour : ℕ) → Look
  striped : (colour period angle : ℕ) → Look

-- the style of the layer at that index
abbrev pub look_of : ℕ → Look
look_of place =
    if nat_lt place 12 then plain (colour_of place)
    else striped (colour_of place) (period_of (hatch_of place)) (angle_of (hatch_of place))

-- ---- no two layers of a picture have the same style

-- Layers at different indices have different styles, however many there are.
abbrev pub PlacesLookUnlike : Type 0
PlacesLookUnlike = (one other : ℕ) → look_of one ≡ look_of other → one ≡ other

-- Layers of a picture with the same style are equal.
abbrev pub LayersLookUnlike : Type 0
LayersLookUnlike =
    (layers : List Layer) (one other : Layer) → list_any (is_layer one) layers ≡ true
    → list_any (is_layer other) layers ≡ true
    → look_of (place_of layers one) ≡ look_of (place_of layers other)
    → is_layer one other ≡ true

-- ---- the number of a rule's colour, by its index in the deck

unfoldable pub rule_colour : ℕ → ℕ
rule_colour place = place % 12
