-- What each element adds to the size of its structure.
use Rattle.std.specs.Prelude.{◌+◌, ◌*◌, ◌^◌, suc, ℤ, pos, neg_ℤ, ◌≤ℤ◌, max, List, [], ◌∷◌, drop, map, filter, Option, Some, None}
use Rattle.mpw_geom.specs.declared.plane.Box2.{Box2}
use Rattle.mpw_geom.specs.declared.plane.Point.{Point}
use Rattle.mpw_structures.specs.declared.element.Element.{Element}
use Rattle.mpw_structures.specs.declared.element.Element.TheVariants as elements
use Rattle.mpw_structures.specs.declared.element.Reference.{Reference}
use Rattle.mpw_shapes.specs.Path.{wire_boxes}
use Rattle.mpw_hier.specs.declared.size_array.WideBox.{WideBox}
use Rattle.mpw_hier.specs.Items.{instances}
use Rattle.mpw_hier.specs.Boxes.{hull, hull_of, has_area, element_box, placed_box}
use Rattle.mpw_hier.specs.Sizes.{Total}

abbrev pub nothing : Total
nothing = record { count = 0; levels = 1; extent = None }

abbrev pub together : Total → Total → Total
together a b = record {
  count = a.count + b.count;
  levels = max a.levels b.levels;
  extent = hull a.extent b.extent;
}

-- The least box of all instances of a box.
unfoldable pub array_extent : Reference → Option Box2 → Option Box2
array_extent r None = None
array_extent r (Some b) = hull_of (map (λ t. placed_box t b) (instances r))

abbrev pub shape_total : Element → Total
shape_total e = record { count = 1; levels = 1; extent = element_box e }

abbrev pub array_total : Reference → Total → Total
array_total r t = record {
  count = r.columns * r.rows * t.count;
  levels = suc t.levels;
  extent = array_extent r t.extent;
}

-- The total of an element, and the totals that are left after it. If it is a reference, the first total is its target's.
abbrev pub part_total : Element → List Total → Total
part_total (elements.Boundary b) ts = shape_total (elements.Boundary b)
part_total (elements.Path p) ts = shape_total (elements.Path p)
part_total (elements.Reference r) [] = nothing
part_total (elements.Reference r) (t ∷ ts) = array_total r t

abbrev pub behind : {A : Type 0} → Element → List A → List A
behind (elements.Boundary b) ts = ts
behind (elements.Path p) ts = ts
behind (elements.Reference r) ts = drop 1 ts

-- The greatest distance of the last instance of an array from the first, in nm.
pub record IsWide (z : ℤ) : Type 0 where
  pub above : neg_ℤ (pos (2 ^ 63)) ≤ℤ z
  pub below : z ≤ℤ pos (2 ^ 63)

pub record IsWideBox (b : WideBox) : Type 0 where
  pub x0 : IsWide b.x0
  pub y0 : IsWide b.y0
  pub x1 : IsWide b.x1
  pub y1 : IsWide b.y1

-- ---- paths

-- The least box of the rectangles along a centre line that have an area.
abbrev pub wires_box : (half before end : ℤ) → List Point → Option Box2
wires_box half before end ps = hull_of (filter has_area (wire_boxes half before end ps))
