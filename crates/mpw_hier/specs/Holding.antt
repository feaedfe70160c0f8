-- Extents as least boxes: each is a box, and contains what it is the extent of.
use Rattle.std.specs.Prelude.{◌≡◌, ◌≤ℤ◌, List, ◌++◌, map, option_map, Option, Some, None, All, IfSome}
use Rattle.mpw_geom.specs.Plane.{IsOrdered}
use Rattle.mpw_geom.specs.declared.placing.Placing.{Placing}
use Rattle.mpw_geom.specs.declared.plane.Box2.{Box2}
use Rattle.mpw_hier.specs.Items.{Item, placed_item}
use Rattle.mpw_hier.specs.Boxes.{hull, placed_box, item_box, extent_of}

-- A box within another.
pub record IsInside (inner outer : Box2) : Type 0 where
  pub left : outer.x0 ≤ℤ inner.x0
  pub bottom : outer.y0 ≤ℤ inner.y0
  pub right : inner.x1 ≤ℤ outer.x1
  pub top : inner.y1 ≤ℤ outer.y1

-- A box, if there is one, is within another.
abbrev pub IsHeld : Option Box2 → Option Box2 → Type 0
IsHeld None outer = Unit {0}
IsHeld (Some inner) None = ⊥
IsHeld (Some inner) (Some outer) = IsInside inner outer

-- An extent has its first corner at the lower left, contains the box of each item, and lies in each box that does.
abbrev pub ExtentsAreOrdered : Type 0
ExtentsAreOrdered = (items : List Item) → IfSome (extent_of items) IsOrdered

abbrev pub ExtentsHoldItems : Type 0
ExtentsHoldItems = (items : List Item) → All (λ i. IsHeld (item_box i) (extent_of items)) items

abbrev pub ExtentsAreLeast : Type 0
ExtentsAreLeast = (items : List Item) (outer : Option Box2)
    → All (λ i. IsHeld (item_box i) outer) items → IsHeld (extent_of items) outer

-- The extent of two lists is the least box around the extents of both, and the extent of a placed list is the extent, placed.
abbrev pub ExtentsAreJoined : Type 0
ExtentsAreJoined = (xs ys : List Item) → extent_of (xs ++ ys) ≡ hull (extent_of xs) (extent_of ys)

abbrev pub ExtentsArePlaced : Type 0
ExtentsArePlaced = (t : Placing) (items : List Item)
    → extent_of (map (placed_item t) items) ≡ option_map (placed_box t) (extent_of items)
