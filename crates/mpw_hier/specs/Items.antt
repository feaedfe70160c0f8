-- The flat list of a structure: each of its flat shapes, with the submission from which the shape comes and its placing.
use Rattle.std.specs.Prelude.{ℕ, pos, ◌+ℤ◌, ◌*ℤ◌, List, [], ◌++◌, map}
use Rattle.std.specs.List.{flat_map, range_with_len}
use Rattle.mpw_geom.specs.declared.plane.Orient.{Orient}
use Rattle.mpw_geom.specs.declared.plane.Orient.TheVariants.{R0, R90, R180, R270, M0, M90, M180, M270}
use Rattle.mpw_geom.specs.declared.plane.Point.{Point}
use Rattle.mpw_geom.specs.declared.placing.Placing.{Placing}
use Rattle.mpw_geom.specs.Placing.{by_orient, placed_point}
use Rattle.mpw_structures.specs.declared.element.Element.{Element}
use Rattle.mpw_structures.specs.declared.element.Reference.{Reference}
use Rattle.mpw_structures.specs.declared.structures.Structure.{Structure}
use Rattle.mpw_hier.specs.Structures.{references, shapes}
use Rattle.mpw_hier.specs.Levels.{by_levels, levels_of}

-- A shape in a flat list.
pub record Item : Type 0 where
  pub origin : ℕ
  pub placing : Placing
  pub element : Element

-- ---- placings in sequence

-- An orientation followed by a mirror, and by a quarter turn.
abbrev pub mirrored : Orient → Orient
mirrored R0 = M0
mirrored R90 = M270
mirrored R180 = M180
mirrored R270 = M90
mirrored M0 = R0
mirrored M90 = R270
mirrored M180 = R180
mirrored M270 = R90

abbrev pub turned : Orient → Orient
turned R0 = R90
turned R90 = R180
turned R180 = R270
turned R270 = R0
turned M0 = M90
turned M90 = M180
turned M180 = M270
turned M270 = M0

-- One placing, and then another.
unfoldable pub placed_again : Placing → Placing → Placing
placed_again outer inner = record {
  orient = by_orient mirrored turned outer.orient inner.orient;
  by = placed_point outer inner.by;
}

-- ---- arrays

-- n steps from a point.
abbrev pub stepped : Point → ℕ → Point → Point
stepped p n step = record { x = p.x +ℤ (pos n *ℤ step.x); y = p.y +ℤ (pos n *ℤ step.y) }

-- The placing of the instance in a column and a row.
abbrev pub instance : Reference → (row column : ℕ) → Placing
instance r row column = record {
  orient = r.orient;
  by = stepped (stepped r.origin column r.column_step) row r.row_step;
}

-- The instances row by row, with the column running fastest.
abbrev pub row_of : Reference → ℕ → List Placing
row_of r row = map (instance r row) (range_with_len 0 r.columns)

unfoldable pub instances : Reference → List Placing
instances r = flat_map (row_of r) (range_with_len 0 r.rows)

-- ---- flat lists

abbrev pub own_items : ℕ → List Element → List Item
own_items number es =
    map (λ e. record {
      origin = number;
      placing = record { orient = R0; by = record { x = pos 0; y = pos 0 } };
      element = e;
    })
    (shapes es)

abbrev pub placed_item : Placing → Item → Item
placed_item t i =
    record { origin = i.origin; placing = placed_again t i.placing; element = i.element }

-- The items of a target, once for each instance.
abbrev pub placed_items : Reference → List Item → List Item
placed_items r items = flat_map (λ t. map (placed_item t) items) (instances r)

-- The items of a structure in the library of the submission with that number: its own shapes, and then those of its targets, in
-- file order.
abbrev pub shown_items : ℕ → Structure → (List ℕ → List Item) → List Item
shown_items number s below = own_items number s.elements
    ++ flat_map (λ r. placed_items r (below r.name)) (references s.elements)

-- The flat list of the structure with a name. A name outside the library has the items that `outside` gives.
abbrev pub items_of : (List ℕ → List Item) → ℕ → List Structure → List ℕ → List Item
items_of outside number library name =
    by_levels (shown_items number) [] outside (levels_of library) library name
