-- A library by its records (GDSII Stream, "Stream syntax").
use Rattle.std.specs.Prelude.{ℕ, zero, suc, ◌||◌, ◌==◌, Bool, true, false, drop, List, [], ◌∷◌, ◌++◌, length, is_some, Option, Some, None, Result, Ok, Err, if◌then◌else◌}
use Rattle.mpw_structures.specs.declared.element.Element.{Element}
use Rattle.mpw_structures.specs.declared.structures.Structure.{Structure}
use Rattle.mpw_structures.specs.Places.{place_of}
use Rattle.mpw_records.specs.declared.fault.Code.TheVariants.{Short, Unexpected, DoubleName, Unit as BadUnit}
use Rattle.mpw_records.specs.declared.fault.ReadFault.{ReadFault}
use Rattle.mpw_records.specs.declared.kind.TheConstants.{HEADER, BGNLIB, LIBNAME, UNITS, ENDLIB, BGNSTR, STRNAME, ENDSTR, PROPATTR, PROPVALUE, STRCLASS}
use Rattle.mpw_records.specs.Records.{RawRecord, RecordOutcome, outcomes_of}
use Rattle.mpw_real8.specs.Real.{real_value, nanometres}
use Rattle.mpw_elements.specs.Reading.{Reading, ◌>>=◌, fault_at, demanded}
use Rattle.mpw_elements.specs.Values.{name_of}
use Rattle.mpw_elements.specs.Grammar.{element}
use Rattle.mpw_library.specs.declared.read.Item.{Item}
use Rattle.mpw_library.specs.declared.read.Item.TheVariants as items

-- The fault of a text that ends without ENDLIB and without a fault. No text does.
abbrev pub gone : ReadFault
gone = record { code = Short; offset = 0 }

-- The next record.
abbrev pub next_record : List RecordOutcome → Reading RawRecord
next_record [] = Err gone
next_record (Err f ∷ rs) = Err f
next_record (Ok r ∷ rs) = Ok (r, rs)

-- The next record, which must have this type.
unfoldable pub next_is : ℕ → List RecordOutcome → Reading RawRecord
next_is kind rs = do
  next ← next_record rs
  r ← demanded kind next.0
  Ok (r, next.1)

-- ---- the head

abbrev pub unit_or_fault : Option ℕ → RawRecord → Result ℕ ReadFault
unit_or_fault (Some unit) r = Ok unit
unit_or_fault None r = Err (fault_at BadUnit r)

-- The database unit in nm: the second of the two reals of UNITS, in metres.
unfoldable pub unit_of : RawRecord → Result ℕ ReadFault
unit_of r = unit_or_fault (nanometres (real_value (drop 8 r.bytes))) r

-- The records that aren't allowed in the head.
abbrev pub ends_head : ℕ → Bool
ends_head kind = (kind == HEADER) || (kind == BGNLIB) || (kind == BGNSTR) || (kind == ENDLIB)

-- The first record of the wanted type in the head. None of the unwanted type may come before it.
unfoldable pub up_to : (wanted unwanted : ℕ) → List RecordOutcome → Reading RawRecord
up_to wanted unwanted [] = Err gone
up_to wanted unwanted (Err f ∷ rs) = Err f
up_to wanted unwanted (Ok r ∷ rs) =
    if r.kind == wanted then Ok (r, rs)
    else if (r.kind == unwanted) || ends_head r.kind then Err (fault_at Unexpected r)
    else up_to wanted unwanted rs

-- From BGNLIB to UNITS: one LIBNAME, and any other records but these.
unfoldable pub head : List RecordOutcome → Reading ℕ
head rs = do
  libname ← up_to LIBNAME UNITS rs
  units ← up_to UNITS LIBNAME libname.1
  unit ← unit_of units.0
  Ok (unit, units.1)

-- ---- structures

-- PROPATTR, PROPVALUE and type 34 hex are allowed between elements, and have no meaning for the layout.
abbrev pub is_between : ℕ → Bool
is_between kind = (kind == PROPATTR) || (kind == PROPVALUE) || (kind == STRCLASS)

abbrev pub item_of : Option Element → Item
item_of (Some e) = items.Placed e
item_of None = items.Other

-- The next item of a structure: its end, an element, or something without meaning for the layout.
unfoldable pub item : ℕ → List RecordOutcome → Reading Item
item unit rs = do
  next ← next_record rs
  if next.0.kind == ENDSTR then Ok (items.End, next.1)
      else if is_between next.0.kind then Ok (items.Other, next.1)
      else (do
        e ← element unit next.0 next.1
        Ok (item_of e.0, e.1))

abbrev pub is_end : Item → Bool
is_end items.End = true
is_end items.Other = false
is_end (items.Placed e) = false

abbrev pub placed : Item → List Element
placed items.End = []
placed items.Other = []
placed (items.Placed e) = e ∷ []

-- The elements up to ENDSTR, after those that were read, in at most the given number of items.
unfoldable pub elements_behind : ℕ → ℕ → List Element → List RecordOutcome → Reading (List Element)
elements_behind zero unit es rs = Err gone
elements_behind (suc most) unit es rs = do
  next ← item unit rs
  if is_end next.0 then Ok (es, next.1) else elements_behind most unit (es ++ placed next.0) next.1

-- element* ENDSTR. There are no more items than records.
abbrev pub all_elements : ℕ → List RecordOutcome → Reading (List Element)
all_elements unit rs = elements_behind (length rs) unit [] rs

-- A name that no earlier structure has.
abbrev pub untaken : Option ℕ → RawRecord → Result (Unit {0}) ReadFault
untaken None r = Ok tt
untaken (Some place) r = Err (fault_at DoubleName r)

-- STRNAME element* ENDSTR, after other structures.
unfoldable pub structure : ℕ → List Structure → List RecordOutcome → Reading Structure
structure unit ss rs = do
  strname ← next_is STRNAME rs
  name ← name_of strname.0
  new ← untaken (place_of ss name) strname.0
  elements ← all_elements unit strname.1
  Ok (record { name = name; elements = elements.0 }, elements.1)

-- BGNSTR and a structure, or none at ENDLIB.
unfoldable pub next_structure : ℕ → List Structure → List RecordOutcome → Reading (Option Structure)
next_structure unit ss rs = do
  next ← next_record rs
  if next.0.kind == ENDLIB then Ok (None, next.1)
      else (do
        begin ← demanded BGNSTR next.0
        s ← structure unit ss next.1
        Ok (Some s.0, s.1))

abbrev pub added : Option Structure → List Structure
added None = []
added (Some s) = s ∷ []

-- The structures up to ENDLIB, with those that were read before. The given number limits how many more are read.
unfoldable pub structures_behind : ℕ → ℕ → List Structure → List RecordOutcome
    → Reading (List Structure)
structures_behind zero unit ss rs = Err gone
structures_behind (suc most) unit ss rs = do
  next ← next_structure unit ss rs
  if is_some next.0 then structures_behind most unit (ss ++ added next.0) next.1
      else Ok (ss, next.1)

-- structure* ENDLIB. There are no more structures than records.
abbrev pub all_structures : ℕ → List RecordOutcome → Reading (List Structure)
all_structures unit rs = structures_behind (length rs) unit [] rs

-- HEADER BGNLIB, the head to UNITS, structure* ENDLIB.
unfoldable pub library : List RecordOutcome → Result (List Structure) ReadFault
library rs = do
  header ← next_is HEADER rs
  begin ← next_is BGNLIB header.1
  unit ← head begin.1
  structures ← all_structures unit.0 unit.1
  Ok structures.0

-- The structures of a text, or its first fault. What comes after ENDLIB is no part of it.
abbrev pub library_of : List ℕ → Result (List Structure) ReadFault
library_of text = library (outcomes_of text)
