-- The unit squares of an element.
use Rattle.std.specs.Prelude.{Bool, false}
use Rattle.mpw_geom.specs.Plane.{Square}
use Rattle.mpw_structures.specs.declared.element.Element.{Element}
use Rattle.mpw_structures.specs.declared.element.Element.TheVariants as elements
use Rattle.mpw_shapes.specs.Boundary.{boundary_has}
use Rattle.mpw_shapes.specs.Path.{path_has}

-- the element has the unit square
abbrev pub element_has : Element → Square → Bool
element_has (elements.Boundary b) s = boundary_has b.points s
element_has (elements.Path p) s = path_has p s
element_has (elements.Reference r) s = false
