-- The layers of rules, and what stays of a layout if only shapes on these are left.
use Rattle.std.specs.Prelude.{Bool, true, ◌||◌, List, map, filter}
use Rattle.std.specs.List.{list_any}
use Rattle.mpw_geom.specs.declared.plane.Layer.{Layer}
use Rattle.mpw_geom.specs.Layers.{same_layer}
use Rattle.mpw_deck.specs.declared.rule.Check.{Check}
use Rattle.mpw_deck.specs.declared.rule.Check.TheVariants.{Width, Space, Separation, Enclosing}
use Rattle.mpw_deck.specs.declared.rule.Rule.{Rule}
use Rattle.mpw_structures.specs.declared.element.Element.{Element}
use Rattle.mpw_structures.specs.declared.element.Element.TheVariants as elements
use Rattle.mpw_structures.specs.declared.structures.Structure.{Structure}
use Rattle.mpw_hier.specs.Items.{Item}

-- The check is of the layer.
abbrev pub is_of : Check → Layer → Bool
is_of (Width own) layer = same_layer own layer
is_of (Space own) layer = same_layer own layer
is_of (Separation first second) layer = same_layer first layer || same_layer second layer
is_of (Enclosing outer inner) layer = same_layer outer layer || same_layer inner layer

-- One of the rules is of the layer.
abbrev pub is_named : List Rule → Layer → Bool
is_named rules layer = list_any (λ (rule : Rule). is_of rule.check layer) rules

-- The list has the layer.
abbrev pub is_among : List Layer → Layer → Bool
is_among layers layer = list_any (λ (own : Layer). same_layer own layer) layers

-- An element stays if it is a reference, or a shape on a layer that passes the test.
abbrev pub stays : (Layer → Bool) → Element → Bool
stays test (elements.Boundary b) = test b.layer
stays test (elements.Path p) = test p.layer
stays test (elements.Reference r) = true

-- A structure, and a library, with the elements that stay.
abbrev pub structure_on : (Layer → Bool) → Structure → Structure
structure_on test s = record { name = s.name; elements = filter (stays test) s.elements }

abbrev pub library_on : (Layer → Bool) → List Structure → List Structure
library_on test library = map (structure_on test) library

-- The flat shapes that stay.
abbrev pub items_on : (Layer → Bool) → List Item → List Item
items_on test items = filter (λ (i : Item). stays test i.element) items
