-- Layers with shapes that no rule names.
use Rattle.std.specs.Prelude.{◌||◌, nat_lt, Bool, List, [], ◌∷◌, ◌++◌, length, fold, if◌then◌else◌}
use Rattle.std.specs.List.{list_any}
use Rattle.mpw_deck.specs.declared.rule.Check.{Check}
use Rattle.mpw_deck.specs.declared.rule.Check.TheVariants.{Width, Space, Separation, Enclosing}
use Rattle.mpw_deck.specs.declared.rule.Rule.{Rule}
use Rattle.mpw_geom.specs.declared.plane.Layer.{Layer}
use Rattle.mpw_geom.specs.Layers.{same_layer}
use Rattle.mpw_structures.specs.declared.element.Element.{Element}
use Rattle.mpw_structures.specs.declared.element.Element.TheVariants.{Boundary, Path, Reference}
use Rattle.mpw_hier.specs.declared.submission.Submission.{Submission}
use Rattle.mpw_hier.specs.Items.{Item}
use Rattle.mpw_walk.specs.declared.root.Root.{Root}
use Rattle.mpw_walk.specs.Turns.{flat_roots}

-- A check names the layer.
abbrev pub names : Layer → Check → Bool
names layer (Width one) = same_layer one layer
names layer (Space one) = same_layer one layer
names layer (Separation one other) = same_layer one layer || same_layer other layer
names layer (Enclosing one other) = same_layer one layer || same_layer other layer

abbrev pub is_named : List Rule → Layer → Bool
is_named rules layer = list_any (λ rule. names layer rule.check) rules

-- The list with a layer, if no rule names it and it isn't there; there are at most 64.
abbrev pub with_layer : List Rule → List Layer → Layer → List Layer
with_layer rules layers layer =
    if is_named rules layer || list_any (same_layer layer) layers then layers
    else if nat_lt (length layers) 64 then layers ++ layer ∷ []
    else layers

abbrev pub with_shape : List Rule → List Layer → Element → List Layer
with_shape rules layers (Boundary boundary) = with_layer rules layers boundary.layer
with_shape rules layers (Path path) = with_layer rules layers path.layer
with_shape rules layers (Reference reference) = layers

-- With those of the shapes of a flat list, in the order in which they come.
abbrev pub with_items : List Rule → List Layer → List Item → List Layer
with_items rules layers items =
    fold (λ (ls : List Layer) (i : Item). with_shape rules ls i.element) layers items

-- The layers of the roots' flat shapes that no rule names.
unfoldable pub unnamed_layers : List Submission → List Root → List Rule → List Layer
unnamed_layers ss roots rules = with_items rules [] (flat_roots ss roots)
