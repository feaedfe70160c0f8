-- The elements by their records, from the first to ENDEL (GDSII Stream, "Stream syntax").
use Rattle.std.specs.Prelude.{ℕ, ◌||◌, ◌==◌, pos, List, [], ◌∷◌, Option, Some, None, Ok, Err, if◌then◌else◌}
use Rattle.mpw_geom.specs.declared.plane.Orient.{Orient}
use Rattle.mpw_geom.specs.declared.plane.Orient.TheVariants.{R0}
use Rattle.mpw_structures.specs.declared.element.Boundary.{Boundary}
use Rattle.mpw_structures.specs.declared.element.Path.{Path}
use Rattle.mpw_structures.specs.declared.element.Reference.{Reference}
use Rattle.mpw_structures.specs.declared.element.Element.{Element}
use Rattle.mpw_structures.specs.declared.element.Element.TheVariants as elements
use Rattle.mpw_records.specs.declared.fault.Code.TheVariants.{Unexpected}
use Rattle.mpw_records.specs.declared.kind.TheConstants.{ENDLIB, BOUNDARY, PATH, SREF, AREF, TEXT, LAYER, DATATYPE, WIDTH, XY, ENDEL, SNAME, COLROW, NODE, STRANS, MAG, ANGLE, PATHTYPE, BOX, BOXTYPE, BGNEXTN, ENDEXTN}
use Rattle.mpw_records.specs.Records.{RawRecord, RecordOutcome}
use Rattle.mpw_elements.specs.Reading.{Reading, ◌>>=◌, fault_at, field, demanded, expected, optional}
use Rattle.mpw_structures.specs.Coordinates.{no_point}
use Rattle.mpw_elements.specs.Values.{short_of, corners_of, centre_of, origin_of, path_type_of, width_of, extension_of, lengthening, name_of, mirrored_of, magnification_of, turns_of, orient_of, counts_of, grid_of}

-- BOUNDARY LAYER DATATYPE XY ENDEL; BOX has BOXTYPE for DATATYPE.
unfoldable pub boundary : (start unit datatype_kind : ℕ) → List RecordOutcome → Reading Boundary
boundary start unit datatype_kind rs = do
  layer ← expected start LAYER rs
  datatype ← expected start datatype_kind layer.1
  xy ← expected start XY datatype.1
  corners ← corners_of unit xy.0
  last ← expected start ENDEL xy.1
  Ok (
    record {
      layer = record { layer = short_of layer.0; datatype = short_of datatype.0 };
      points = corners;
    },
    last.1,
  )

-- PATH LAYER DATATYPE [PATHTYPE] [WIDTH] [BGNEXTN] [ENDEXTN] XY ENDEL.
unfoldable pub path : (start unit : ℕ) → List RecordOutcome → Reading Path
path start unit rs = do
  layer ← expected start LAYER rs
  datatype ← expected start DATATYPE layer.1
  next ← field start datatype.1
  path_type ← optional start PATHTYPE path_type_of 0 next.0 next.1
  width ← optional start WIDTH (width_of unit) (pos 0) path_type.0.1 path_type.1
  begin ← optional start BGNEXTN (extension_of unit) (pos 0) width.0.1 width.1
  end ← optional start ENDEXTN (extension_of unit) (pos 0) begin.0.1 begin.1
  xy ← demanded XY end.0.1
  centre ← centre_of unit xy
  last ← expected start ENDEL end.1
  Ok (
    record {
      layer = record { layer = short_of layer.0; datatype = short_of datatype.0 };
      width = width.0.0;
      begin = lengthening path_type.0.0 width.0.0 begin.0.0;
      end = lengthening path_type.0.0 width.0.0 end.0.0;
      points = centre;
    },
    last.1,
  )

-- [STRANS [MAG] [ANGLE]]: the orientation, and the record after it.
unfoldable pub orientation : (start : ℕ) → RawRecord → List RecordOutcome
    → Reading (Orient × RawRecord)
orientation start r rs =
    if r.kind == STRANS then (do
      mirrored ← mirrored_of r
      next ← field start rs
      magnification ← optional start MAG magnification_of tt next.0 next.1
      angle ← optional start ANGLE turns_of 0 magnification.0.1 magnification.1
      Ok ((orient_of mirrored angle.0.0, angle.0.1), angle.1)) else Ok ((R0, r), rs)

-- SREF SNAME [STRANS [MAG] [ANGLE]] XY ENDEL.
unfoldable pub single : (start unit : ℕ) → List RecordOutcome → Reading Reference
single start unit rs = do
  sname ← expected start SNAME rs
  name ← name_of sname.0
  next ← field start sname.1
  orient ← orientation start next.0 next.1
  xy ← demanded XY orient.0.1
  origin ← origin_of unit xy
  last ← expected start ENDEL orient.1
  Ok (
    record {
      name = name;
      orient = orient.0.0;
      origin = origin;
      columns = 1;
      rows = 1;
      column_step = no_point;
      row_step = no_point;
    },
    last.1,
  )

-- AREF SNAME [STRANS [MAG] [ANGLE]] COLROW XY ENDEL.
unfoldable pub array : (start unit : ℕ) → List RecordOutcome → Reading Reference
array start unit rs = do
  sname ← expected start SNAME rs
  name ← name_of sname.0
  next ← field start sname.1
  orient ← orientation start next.0 next.1
  colrow ← demanded COLROW orient.0.1
  counts ← counts_of colrow
  xy ← expected start XY orient.1
  grid ← grid_of unit counts.0 counts.1 xy.0
  last ← expected start ENDEL xy.1
  Ok (
    record {
      name = name;
      orient = orient.0.0;
      origin = grid.origin;
      columns = counts.0;
      rows = counts.1;
      column_step = grid.column_step;
      row_step = grid.row_step;
    },
    last.1,
  )

-- TEXT and NODE: any records but ENDLIB, to ENDEL.
unfoldable pub ignored : (start : ℕ) → List RecordOutcome → Reading (Unit {0})
ignored start [] = Err (record { code = Unexpected; offset = start })
ignored start (Err f ∷ rs) = Err f
ignored start (Ok r ∷ rs) =
    if r.kind == ENDEL then Ok (tt, rs)
    else if r.kind == ENDLIB then Err (fault_at Unexpected r)
    else ignored start rs

-- An element whose first record has been read; none for TEXT and NODE.
unfoldable pub element : (unit : ℕ) → RawRecord → List RecordOutcome → Reading (Option Element)
element unit first rs =
    if first.kind == BOUNDARY then (do
      b ← boundary first.offset unit DATATYPE rs
      Ok (Some (elements.Boundary b.0), b.1))
    else if first.kind == BOX then (do
      b ← boundary first.offset unit BOXTYPE rs
      Ok (Some (elements.Boundary b.0), b.1))
    else if first.kind == PATH then (do
      p ← path first.offset unit rs
      Ok (Some (elements.Path p.0), p.1))
    else if first.kind == SREF then (do
      r ← single first.offset unit rs
      Ok (Some (elements.Reference r.0), r.1))
    else if first.kind == AREF then (do
      r ← array first.offset unit rs
      Ok (Some (elements.Reference r.0), r.1))
    else if (first.kind == TEXT) || (first.kind == NODE) then (do
      i ← ignored first.offset rs
      Ok (None, i.1))
    else Err (fault_at Unexpected first)
