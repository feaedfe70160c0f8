-- Entries, and their items (flat shapes) in the first submission of a shelf.
use Rattle.std.specs.Prelude.{ℕ, List, [], ◌∷◌, slice_get, Option, Some, None, option_map}
use Rattle.std.specs.List.{flat_map}
use Rattle.mpw_geom.specs.declared.placing.Placing.{Placing}
use Rattle.mpw_geom.specs.declared.plane.Box2.{Box2}
use Rattle.mpw_structures.specs.declared.element.Element.{Element}
use Rattle.mpw_structures.specs.declared.element.Reference.{Reference}
use Rattle.mpw_structures.specs.declared.structures.Structure.{Structure}
use Rattle.mpw_hier.specs.declared.submission.Submission.{Submission}
use Rattle.mpw_hier.specs.Boxes.{element_box, placed_box}
use Rattle.mpw_hier.specs.Items.{Item, placed_items}
use Rattle.mpw_hier.specs.Values.{structure_items}
use Rattle.mpw_columns_contents.specs.declared.thing.Array.{Array}
use Rattle.mpw_columns_contents.specs.declared.thing.Thing.{Thing}
use Rattle.mpw_columns_contents.specs.declared.thing.Thing.TheVariants as things

-- The element at an index of the structure at an index of the first submission's library.
abbrev pub element_at : Option Structure → ℕ → Option Element
element_at None place = None
element_at (Some s) place = slice_get s.elements place

abbrev pub element_in : List Submission → ℕ → ℕ → Option Element
element_in [] structure place = None
element_in (s ∷ ss) structure place = element_at (slice_get s.library structure) place

-- An element as the one item that it is when it is placed.
abbrev pub drawn : Placing → Option Element → List Item
drawn t None = []
drawn t (Some e) = record { origin = 0; placing = t; element = e } ∷ []

-- The box of that item.
abbrev pub drawn_box : Placing → Option Element → Option Box2
drawn_box t None = None
drawn_box t (Some e) = option_map (placed_box t) (element_box e)

-- The content of the structure at an index of the first submission's library, in its own coordinates.
abbrev pub structure_shown : Submission → Option Structure → List Item
structure_shown s None = []
structure_shown s (Some structure) = structure_items [] s structure.name

abbrev pub place_shown : List Submission → ℕ → List Item
place_shown [] place = []
place_shown (s ∷ ss) place = structure_shown s (slice_get s.library place)

-- The reference that places an array, with some name.
abbrev pub reference_of : Array → Reference
reference_of a = record {
  name = [];
  orient = a.first.orient;
  origin = a.first.by;
  columns = a.columns;
  rows = a.rows;
  column_step = a.column_step;
  row_step = a.row_step;
}

-- A shape is one item; an array has the items of its structure, once for each instance, row by row.
unfoldable pub thing_items : List Submission → Thing → List Item
thing_items ss (things.Shape shape) =
    drawn shape.placing (element_in ss shape.structure shape.element)
thing_items ss (things.Array a) = placed_items (reference_of a) (place_shown ss a.structure)

unfoldable pub things_items : List Submission → List Thing → List Item
things_items ss things = flat_map (thing_items ss) things
