-- Entries and their items, displaced.
use Rattle.std.specs.Prelude.{◌≡◌, List, None, map}
use Rattle.mpw_geom.specs.Placing.{moved_point}
use Rattle.mpw_geom.specs.declared.plane.Point.{Point}
use Rattle.mpw_geom.specs.declared.placing.Placing.{Placing}
use Rattle.mpw_hier.specs.Items.{Item}
use Rattle.mpw_columns_contents.specs.declared.thing.Array.{Array}
use Rattle.mpw_columns_contents.specs.declared.thing.Shape.{Shape}
use Rattle.mpw_columns_contents.specs.declared.thing.Thing.{Thing}
use Rattle.mpw_columns_contents.specs.declared.thing.Thing.TheVariants as things

-- The position of an entry.
abbrev pub place_of_thing : Thing → Point
place_of_thing (things.Shape shape) = shape.placing.by
place_of_thing (things.Array a) = a.first.by

-- The placing, displaced.
abbrev pub moved_placing : Point → Placing → Placing
moved_placing d t = record { orient = t.orient; by = moved_point d t.by }

abbrev pub moved : Point → Item → Item
moved d i =
    record { origin = i.origin; placing = moved_placing d i.placing; element = i.element }

-- The shape without its area, which follows from its placing.
abbrev pub bare_shape : Shape → Shape
bare_shape shape = record {
  structure = shape.structure;
  element = shape.element;
  placing = shape.placing;
  area = None;
}

abbrev pub bare : Thing → Thing
bare (things.Shape shape) = things.Shape (bare_shape shape)
bare (things.Array a) = things.Array a

-- The same shape, without its area, and the same array, displaced.
abbrev pub moved_shape : Point → Shape → Shape
moved_shape d shape = record {
  structure = shape.structure;
  element = shape.element;
  placing = moved_placing d shape.placing;
  area = None;
}

abbrev pub moved_array : Point → Array → Array
moved_array d a = record {
  structure = a.structure;
  node = a.node;
  first = moved_placing d a.first;
  columns = a.columns;
  rows = a.rows;
  column_step = a.column_step;
  row_step = a.row_step;
}

abbrev pub moved_thing : Point → Thing → Thing
moved_thing d (things.Shape shape) = things.Shape (moved_shape d shape)
moved_thing d (things.Array a) = things.Array (moved_array d a)

-- One list of entries is another, displaced, except for their areas.
abbrev pub AreMoved : Point → (from to : List Thing) → Type 0
AreMoved d from to = map bare to ≡ map (moved_thing d) from
