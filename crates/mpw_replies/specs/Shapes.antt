-- A shape of a listing, as it is given, and its line.
use Rattle.mpw_geom.specs.Plane.{IsInPlane}
use Rattle.mpw_structures.specs.Element.{IsElement}
use Rattle.mpw_replies.specs.declared.listing.ShapeView.{ShapeView}
use Rattle.mpw_replies.specs.Listing.{Listed, shape}

abbrev pub line_of : ShapeView → Listed
line_of v = shape v.cell.now v.version v.placing v.element.now

-- A shape that can be placed: an element as reading gives it, and a displacement that a caller may give.
pub record IsPlaceableView (v : ShapeView) : Type 0 where
  pub element : IsElement v.element.now
  pub displacement : IsInPlane v.placing.by
