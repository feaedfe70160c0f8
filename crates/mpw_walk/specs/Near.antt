-- The positions of shapes, each by a corner of its box.
use Rattle.std.specs.Prelude.{◌≡◌, ◌≤ℤ◌, ◌^◌, ℤ, pos, neg_ℤ, Option, Some, option_map}
use Rattle.mpw_geom.specs.declared.plane.Point.{Point}
use Rattle.mpw_geom.specs.Placing.{placed_point}
use Rattle.mpw_structures.specs.declared.element.Element.{Element}
use Rattle.mpw_hier.specs.Items.{Item}
use Rattle.mpw_hier.specs.Boxes.{element_box}

-- At most 2^30 nm from the axes.
pub record IsClose (z : ℤ) : Type 0 where
  pub low : neg_ℤ (pos (2 ^ 30)) ≤ℤ z
  pub high : z ≤ℤ pos (2 ^ 30)

pub record IsClosePoint (p : Point) : Type 0 where
  pub x : IsClose p.x
  pub y : IsClose p.y

-- The lower left corner of an element's box.
abbrev pub corner_of : Element → Option Point
corner_of e = option_map (λ b. record { x = b.x0; y = b.y0 }) (element_box e)

-- A shape has a box, and the image of its corner is close.
pub record IsCloseItem (i : Item) : Type 0 where
  pub corner : Point
  pub is : corner_of i.element ≡ Some corner
  pub close : IsClosePoint (placed_point i.placing corner)
