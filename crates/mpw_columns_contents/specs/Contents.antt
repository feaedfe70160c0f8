-- What contents of a window are, by their items (flat shapes).
use Rattle.std.specs.Prelude.{◌≡◌, true, List, Contains, Some, IfSome, IsSomeAnd}
use Rattle.mpw_geom.specs.Plane.{IsInPlane}
use Rattle.mpw_geom.specs.declared.plane.Box2.{Box2}
use Rattle.mpw_geom.specs.declared.plane.Layer.{Layer}
use Rattle.mpw_structures.specs.declared.element.Element.{Element}
use Rattle.mpw_structures.specs.declared.element.Element.TheVariants as elements
use Rattle.mpw_hier.specs.Boxes.{item_box}
use Rattle.mpw_hier.specs.Items.{Item}
use Rattle.mpw_hier.specs.declared.submission.Submission.{Submission}
use Rattle.mpw_walk.specs.Window.{is_met}
use Rattle.mpw_columns_contents.specs.declared.thing.Thing.{Thing}
use Rattle.mpw_columns_contents.specs.declared.thing.Thing.TheVariants as things
use Rattle.mpw_columns_contents.specs.Things.{drawn_box, element_in}

-- Each item that touches the window is included.
abbrev pub AreWhole : Box2 → (all shown : List Item) → Type 0
AreWhole window all shown =
    (i : Item) → Contains all i → is_met window (item_box i) ≡ true → Contains shown i

-- No other item is included.
abbrev pub AreSound : (all shown : List Item) → Type 0
AreSound all shown = (i : Item) → Contains shown i → Contains all i

-- An entry's displacement lies within 2^48 nm.
abbrev pub IsNear : Thing → Type 0
IsNear (things.Shape shape) = IsInPlane shape.placing.by
IsNear (things.Array a) = IsInPlane a.first.by

-- If a shape has an area, that is the box of its item.
abbrev pub IsBoxed : List Submission → Thing → Type 0
IsBoxed ss (things.Shape shape) = IfSome shape.area (λ area.
    drawn_box shape.placing (element_in ss shape.structure shape.element) ≡ Some area)
IsBoxed ss (things.Array a) = Unit {0}

-- An element is a shape on one of the layers.
abbrev pub IsOn : List Layer → Element → Type 0
IsOn layers (elements.Boundary b) = Contains layers b.layer
IsOn layers (elements.Path p) = Contains layers p.layer
IsOn layers (elements.Reference r) = ⊥

-- An entry is an array, or a shape on one of the layers.
abbrev pub IsThingOn : List Submission → List Layer → Thing → Type 0
IsThingOn ss layers (things.Shape shape) =
    IsSomeAnd (element_in ss shape.structure shape.element) (IsOn layers)
IsThingOn ss layers (things.Array a) = Unit {0}
