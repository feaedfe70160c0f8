-- The unit squares that placed shapes have.
use Rattle.std.specs.Prelude.{◌≡◌, ℕ, ℤ, true, List, Contains, Option, Some, None}
use Rattle.mpw_geom.specs.declared.plane.Layer.{Layer}
use Rattle.mpw_geom.specs.Plane.{Square}
use Rattle.mpw_geom.specs.Placing.{placed_square}
use Rattle.mpw_edges.specs.Edges.{Squares}
use Rattle.mpw_structures.specs.declared.element.Element.{Element}
use Rattle.mpw_structures.specs.declared.element.Element.TheVariants as elements
use Rattle.mpw_shapes.specs.Element.{element_has}
use Rattle.mpw_hier.specs.Items.{Item}

-- The layer of a shape; none for a reference.
abbrev pub layer_of : Element → Option Layer
layer_of (elements.Boundary b) = Some b.layer
layer_of (elements.Path p) = Some p.layer
layer_of (elements.Reference r) = None

-- The shape has that layer and origin, and has the unit square when it is placed: the placing takes one of the element's squares to it.
pub record ShowsSquare (item : Item) (layer : Layer) (origin : ℕ) (s : Square) : Type 0 where
  pub on_layer : layer_of item.element ≡ Some layer
  pub of_origin : item.origin ≡ origin
  pub square : Square
  pub has : element_has item.element square ≡ true
  pub placed : placed_square item.placing square ≡ s

-- A shape of the list, of that layer and origin, has the unit square.
abbrev pub IsShown : List Item → Layer → ℕ → Square → Type 0
IsShown items layer origin s = (item : Item) × Contains items item × ShowsSquare item layer origin s

-- A shape of the list, of that origin and on any layer, has the unit square.
abbrev pub HasShown : List Item → ℕ → Square → Type 0
HasShown items origin s = (layer : Layer) × IsShown items layer origin s

-- The squares are those that shapes of the list have on the layer.
pub record AreShownOn (items : List Item) (layer : Layer) (a : Squares) : Type 0 where
  pub shown : (i j : ℤ) → a i j ≡ true
      → (origin : ℕ) × IsShown items layer origin (record { column = i; row = j })
  pub all : (i j : ℤ) (origin : ℕ) → IsShown items layer origin (record { column = i; row = j })
      → a i j ≡ true
