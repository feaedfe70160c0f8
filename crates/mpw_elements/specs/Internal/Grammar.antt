-- For private functions and proofs: parts of the elements by their records.
use Rattle.std.specs.Prelude.{ℕ, ◌||◌, ◌==◌, pos, Bool, true, false, List, Option, Some, None, Result, Ok, Err, if◌then◌else◌}
use Rattle.mpw_geom.specs.declared.plane.Layer.{Layer}
use Rattle.mpw_geom.specs.declared.plane.Orient.{Orient}
use Rattle.mpw_structures.specs.declared.element.Element.{Element}
use Rattle.mpw_structures.specs.declared.element.Element.TheVariants as elements
use Rattle.mpw_records.specs.declared.fault.Code.TheVariants.{Unexpected}
use Rattle.mpw_records.specs.declared.fault.ReadFault.{ReadFault}
use Rattle.mpw_records.specs.declared.kind.TheConstants.{BOUNDARY, PATH, SREF, AREF, TEXT, DATATYPE, LAYER, WIDTH, XY, ENDEL, SNAME, COLROW, NODE, PATHTYPE, BOX, BOXTYPE, BGNEXTN, ENDEXTN}
use Rattle.mpw_records.specs.Records.{RawRecord, RecordOutcome}
use Rattle.mpw_elements.specs.declared.path.Breadth.{Breadth}
use Rattle.mpw_elements.specs.Reading.{Reading, ◌>>=◌, fault_at, field, demanded, expected, optional}
use Rattle.mpw_elements.specs.Grammar.{orientation, ignored}
use Rattle.mpw_structures.specs.Coordinates.{no_point}
use Rattle.mpw_elements.specs.Values.{short_of, corners_of, centre_of, origin_of, path_type_of, width_of, extension_of, lengthening, name_of, counts_of, grid_of}

-- The value of a record, and the next record.
abbrev pub and_field : {V : Type 0} → ℕ → Result V ReadFault → List RecordOutcome
    → Reading (V × RawRecord)
and_field start value rs = do
  v ← value
  next ← field start rs
  Ok ((v, next.0), next.1)

-- LAYER DATATYPE; a box has BOXTYPE for DATATYPE.
unfoldable pub layer : (start datatype_kind : ℕ) → List RecordOutcome → Reading Layer
layer start datatype_kind rs = do
  layer ← expected start LAYER rs
  datatype ← expected start datatype_kind layer.1
  Ok (record { layer = short_of layer.0; datatype = short_of datatype.0 }, datatype.1)

-- ENDEL after an element.
unfoldable pub end_element : (start : ℕ) → Element → List RecordOutcome → Reading (Option Element)
end_element start element rs = do
  last ← expected start ENDEL rs
  Ok (Some element, last.1)

-- A boundary by its layer, and what comes after.
unfoldable pub boundary_by_layer : (start unit datatype_kind : ℕ) → List RecordOutcome
    → Reading (Option Element)
boundary_by_layer start unit datatype_kind rs = do
  first ← layer start datatype_kind rs
  xy ← expected start XY first.1
  corners ← corners_of unit xy.0
  end_element start (elements.Boundary (record { layer = first.0; points = corners })) xy.1

-- [PATHTYPE] [WIDTH] [BGNEXTN] [ENDEXTN], and the record after them.
unfoldable pub breadth : (start unit : ℕ) → List RecordOutcome → Reading (Breadth × RawRecord)
breadth start unit rs = do
  next ← field start rs
  path_type ← optional start PATHTYPE path_type_of 0 next.0 next.1
  width ← optional start WIDTH (width_of unit) (pos 0) path_type.0.1 path_type.1
  begin ← optional start BGNEXTN (extension_of unit) (pos 0) width.0.1 width.1
  end ← optional start ENDEXTN (extension_of unit) (pos 0) begin.0.1 begin.1
  Ok (
    (
      record {
        width = width.0.0;
        begin = lengthening path_type.0.0 width.0.0 begin.0.0;
        end = lengthening path_type.0.0 width.0.0 end.0.0;
      },
      end.0.1,
    ),
    end.1,
  )

-- A path by its layer and its breadth, and what comes after.
unfoldable pub path_by_breadth : (start unit : ℕ) → List RecordOutcome → Reading (Option Element)
path_by_breadth start unit rs = do
  first ← layer start DATATYPE rs
  sizes ← breadth start unit first.1
  xy ← demanded XY sizes.0.1
  centre ← centre_of unit xy
  end_element start (elements.Path (record {
    layer = first.0;
    width = sizes.0.0.width;
    begin = sizes.0.0.begin;
    end = sizes.0.0.end;
    points = centre;
  })) sizes.1

-- XY ENDEL of an SREF whose name and orientation were read.
unfoldable pub single_behind : (start unit : ℕ) (name : List ℕ) → Orient → RawRecord
    → List RecordOutcome → Reading (Option Element)
single_behind start unit name orient r rs = do
  xy ← demanded XY r
  origin ← origin_of unit xy
  end_element start (elements.Reference (record {
    name = name;
    orient = orient;
    origin = origin;
    columns = 1;
    rows = 1;
    column_step = no_point;
    row_step = no_point;
  })) rs

-- COLROW XY ENDEL of an AREF whose name and orientation were read.
unfoldable pub array_behind : (start unit : ℕ) (name : List ℕ) → Orient → RawRecord
    → List RecordOutcome → Reading (Option Element)
array_behind start unit name orient r rs = do
  colrow ← demanded COLROW r
  counts ← counts_of colrow
  xy ← expected start XY rs
  grid ← grid_of unit counts.0 counts.1 xy.0
  end_element start (elements.Reference (record {
    name = name;
    orient = orient;
    origin = grid.origin;
    columns = counts.0;
    rows = counts.1;
    column_step = grid.column_step;
    row_step = grid.row_step;
  })) xy.1

-- SNAME and the orientation of an SREF or an AREF, and what comes after.
unfoldable pub reference : (start unit : ℕ) (is_array : Bool) → List RecordOutcome
    → Reading (Option Element)
reference start unit is_array rs = do
  sname ← expected start SNAME rs
  name ← name_of sname.0
  next ← field start sname.1
  orient ← orientation start next.0 next.1
  if is_array then array_behind start unit name orient.0.0 orient.0.1 orient.1 else single_behind start unit name orient.0.0 orient.0.1 orient.1

-- An element by its parts.
unfoldable pub element_by_parts : (unit : ℕ) → RawRecord → List RecordOutcome
    → Reading (Option Element)
element_by_parts unit first rs =
    if first.kind == BOUNDARY then boundary_by_layer first.offset unit DATATYPE rs
    else if first.kind == BOX then boundary_by_layer first.offset unit BOXTYPE rs
    else if first.kind == PATH then path_by_breadth first.offset unit rs
    else if first.kind == SREF then reference first.offset unit false rs
    else if first.kind == AREF then reference first.offset unit true rs
    else if (first.kind == TEXT) || (first.kind == NODE) then (do
      i ← ignored first.offset rs
      Ok (None, i.1))
    else Err (fault_at Unexpected first)

-- What was read, as an element.
abbrev pub as_element : {X : Type 0} → (X → Element) → Reading X → Reading (Option Element)
as_element make read = do
  x ← read
  Ok (Some (make x.0), x.1)
