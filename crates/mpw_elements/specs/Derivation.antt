-- The elements by cases (GDSII Stream, "Stream syntax"): which element a list of records is, from its first record to ENDEL.
use Rattle.std.specs.Prelude.{◌≡◌, ◌↔◌, ℕ, ◌&&◌, ◌==◌, not, Bool, true, ℤ, pos, List, [], ◌∷◌, ◌++◌, Option, Some, None, Result, Ok}
use Rattle.mpw_geom.specs.declared.plane.Point.{Point}
use Rattle.mpw_geom.specs.declared.plane.Orient.{Orient}
use Rattle.mpw_geom.specs.declared.plane.Orient.TheVariants.{R0}
use Rattle.mpw_structures.specs.declared.element.Boundary.{Boundary}
use Rattle.mpw_structures.specs.declared.element.Path.{Path}
use Rattle.mpw_structures.specs.declared.element.Reference.{Reference}
use Rattle.mpw_structures.specs.declared.element.Element.{Element}
use Rattle.mpw_structures.specs.declared.element.Element.TheVariants as elements
use Rattle.mpw_records.specs.declared.fault.ReadFault.{ReadFault}
use Rattle.mpw_records.specs.declared.kind.TheConstants.{ENDLIB, BOUNDARY, PATH, SREF, AREF, TEXT, LAYER, DATATYPE, WIDTH, XY, ENDEL, SNAME, COLROW, NODE, STRANS, MAG, ANGLE, PATHTYPE, BOX, BOXTYPE, BGNEXTN, ENDEXTN}
use Rattle.mpw_records.specs.Records.{RawRecord, RecordOutcome}
use Rattle.mpw_elements.specs.declared.values.Grid.{Grid}
use Rattle.mpw_elements.specs.Reading.{is_skipped}
use Rattle.mpw_structures.specs.Coordinates.{no_point}
use Rattle.mpw_elements.specs.Values.{short_of, corners_of, centre_of, origin_of, path_type_of, width_of, extension_of, lengthening, name_of, mirrored_of, magnification_of, turns_of, orient_of, counts_of, grid_of}
use Rattle.mpw_elements.specs.Grammar.{element}

-- A record of a type, after any records that may be skipped.
pub data Behind (passed : ℕ → Bool) (kind : ℕ) : List RawRecord → RawRecord → Type 0 where
  here : {r : RawRecord} → r.kind ≡ kind → Behind passed kind (r ∷ []) r
  over : {s r : RawRecord} {rs : List RawRecord} → passed s.kind ≡ true → Behind passed kind rs r
      → Behind passed kind (s ∷ rs) r

-- A record of an element. ELFLAGS, PLEX, PROPATTR and PROPVALUE may come before it.
abbrev pub IsField : ℕ → List RawRecord → RawRecord → Type 0
IsField kind rs r = Behind is_skipped kind rs r

-- An optional record of an element, with its value; or a default if it is absent.
pub data IsOptional {V : Type 0} (kind : ℕ) (value : RawRecord → Result V ReadFault) (default : V) :
    List RawRecord → V → Type 0 where
  absent : IsOptional kind value default [] default
  present : {rs : List RawRecord} {r : RawRecord} {v : V} → IsField kind rs r → value r ≡ Ok v
      → IsOptional kind value default rs v

-- BOUNDARY LAYER DATATYPE XY ENDEL, after its first record; BOX has BOXTYPE for DATATYPE.
pub data DerivesBoundary (unit datatype_kind : ℕ) : List RawRecord → Boundary → Type 0 where
  boundary : {layers datatypes xys lasts : List RawRecord} {layer datatype xy last : RawRecord}
      {corners : List Point}
      → IsField LAYER layers layer
      → IsField datatype_kind datatypes datatype
      → IsField XY xys xy → corners_of unit xy ≡ Ok corners
      → IsField ENDEL lasts last
      → DerivesBoundary unit datatype_kind (layers ++ datatypes ++ xys ++ lasts)
      (record {
        layer = record { layer = short_of layer; datatype = short_of datatype };
        points = corners;
      })

-- PATH LAYER DATATYPE [PATHTYPE] [WIDTH] [BGNEXTN] [ENDEXTN] XY ENDEL, after its first record.
pub data DerivesPath (unit : ℕ) : List RawRecord → Path → Type 0 where
  path : {layers datatypes types widths begins ends xys lasts : List RawRecord}
      {layer datatype xy last : RawRecord} {path_type : ℕ} {width begin end : ℤ}
      {centre : List Point}
      → IsField LAYER layers layer
      → IsField DATATYPE datatypes datatype
      → IsOptional PATHTYPE path_type_of 0 types path_type
      → IsOptional WIDTH (width_of unit) (pos 0) widths width
      → IsOptional BGNEXTN (extension_of unit) (pos 0) begins begin
      → IsOptional ENDEXTN (extension_of unit) (pos 0) ends end
      → IsField XY xys xy → centre_of unit xy ≡ Ok centre
      → IsField ENDEL lasts last
      → DerivesPath unit (layers ++ datatypes ++ types ++ widths ++ begins ++ ends ++ xys ++ lasts)
      (
      record {
        layer = record { layer = short_of layer; datatype = short_of datatype };
        width = width;
        begin = lengthening path_type width begin;
        end = lengthening path_type width end;
        points = centre;
      })

-- [STRANS [MAG] [ANGLE]].
pub data DerivesOrient : List RawRecord → Orient → Type 0 where
  upright : DerivesOrient [] R0
  turned : {flags magnifications angles : List RawRecord} {strans : RawRecord} {mirrored : Bool}
      {magnification : Unit {0}} {angle : ℕ}
      → IsField STRANS flags strans → mirrored_of strans ≡ Ok mirrored
      → IsOptional MAG magnification_of tt magnifications magnification
      → IsOptional ANGLE turns_of 0 angles angle
      → DerivesOrient (flags ++ magnifications ++ angles) (orient_of mirrored angle)

-- SREF SNAME [STRANS [MAG] [ANGLE]] XY ENDEL, after its first record.
pub data DerivesSingle (unit : ℕ) : List RawRecord → Reference → Type 0 where
  single : {names turns xys lasts : List RawRecord} {sname xy last : RawRecord} {name : List ℕ}
      {orient : Orient} {origin : Point}
      → IsField SNAME names sname → name_of sname ≡ Ok name
      → DerivesOrient turns orient
      → IsField XY xys xy → origin_of unit xy ≡ Ok origin
      → IsField ENDEL lasts last
      → DerivesSingle unit (names ++ turns ++ xys ++ lasts)
      (record {
        name = name;
        orient = orient;
        origin = origin;
        columns = 1;
        rows = 1;
        column_step = no_point;
        row_step = no_point;
      })

-- AREF SNAME [STRANS [MAG] [ANGLE]] COLROW XY ENDEL, after its first record.
pub data DerivesArray (unit : ℕ) : List RawRecord → Reference → Type 0 where
  array : {names turns colrows xys lasts : List RawRecord} {sname colrow xy last : RawRecord}
      {name : List ℕ} {orient : Orient} {counts : ℕ × ℕ} {grid : Grid}
      → IsField SNAME names sname → name_of sname ≡ Ok name
      → DerivesOrient turns orient
      → IsField COLROW colrows colrow → counts_of colrow ≡ Ok counts
      → IsField XY xys xy → grid_of unit counts.0 counts.1 xy ≡ Ok grid
      → IsField ENDEL lasts last
      → DerivesArray unit (names ++ turns ++ colrows ++ xys ++ lasts)
      (record {
        name = name;
        orient = orient;
        origin = grid.origin;
        columns = counts.0;
        rows = counts.1;
        column_step = grid.column_step;
        row_step = grid.row_step;
      })

-- What TEXT and NODE may contain: any record but ENDEL and ENDLIB.
abbrev pub is_inner : ℕ → Bool
is_inner kind = not (kind == ENDEL) && not (kind == ENDLIB)

-- An element from its first record to ENDEL; none for TEXT and NODE.
pub data DerivesElement (unit : ℕ) : List RawRecord → Option Element → Type 0 where
  boundary : {first : RawRecord} {rs : List RawRecord} {b : Boundary} → first.kind ≡ BOUNDARY
      → DerivesBoundary unit DATATYPE rs b
      → DerivesElement unit (first ∷ rs) (Some (elements.Boundary b))
  box : {first : RawRecord} {rs : List RawRecord} {b : Boundary} → first.kind ≡ BOX
      → DerivesBoundary unit BOXTYPE rs b
      → DerivesElement unit (first ∷ rs) (Some (elements.Boundary b))
  path : {first : RawRecord} {rs : List RawRecord} {p : Path} → first.kind ≡ PATH
      → DerivesPath unit rs p → DerivesElement unit (first ∷ rs) (Some (elements.Path p))
  single : {first : RawRecord} {rs : List RawRecord} {r : Reference} → first.kind ≡ SREF
      → DerivesSingle unit rs r → DerivesElement unit (first ∷ rs) (Some (elements.Reference r))
  array : {first : RawRecord} {rs : List RawRecord} {r : Reference} → first.kind ≡ AREF
      → DerivesArray unit rs r → DerivesElement unit (first ∷ rs) (Some (elements.Reference r))
  text : {first last : RawRecord} {rs : List RawRecord} → first.kind ≡ TEXT
      → Behind is_inner ENDEL rs last → DerivesElement unit (first ∷ rs) None
  node : {first last : RawRecord} {rs : List RawRecord} → first.kind ≡ NODE
      → Behind is_inner ENDEL rs last → DerivesElement unit (first ∷ rs) None

-- ---- how reading an element relates to them

-- The records, none of them a fault, and what comes after them.
abbrev pub records_then : List RawRecord → List RecordOutcome → List RecordOutcome
records_then [] rest = rest
records_then (r ∷ rs) rest = Ok r ∷ records_then rs rest

-- Records without a fault that have a property, and the rest after them.
pub record Begins (all rest : List RecordOutcome) (Told : List RawRecord → Type 0) : Type 0 where
  pub records : List RawRecord
  pub parts : all ≡ records_then records rest
  pub told : Told records

-- Reading gives an element exactly if the records that it takes have no fault and derive the element.
abbrev pub ElementsAreDerived : Type 0
ElementsAreDerived =
    (unit : ℕ) (first : RawRecord) (all rest : List RecordOutcome) (found : Option Element)
    → element unit first all ≡ Ok (found, rest)
    ↔ Begins all rest (λ rs. DerivesElement unit (first ∷ rs) found)
