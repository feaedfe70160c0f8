-- The elements of a text, by the records in its structures: each from its first record through its ENDEL.
use Rattle.std.specs.Prelude.{ℕ, ◌+◌, ◌-◌, ◌*◌, ◌^◌, ◌==◌, ◌||◌, ◌&&◌, not, min, Bool, false, List, [], ◌∷◌, ◌++◌, length, Option, Some, None, option_map, Ok, Err, if◌then◌else◌}
use Rattle.mpw_records.specs.Records.{RawRecord, RecordOutcome}
use Rattle.mpw_records.specs.declared.kind.TheConstants.{AREF, BGNSTR, BOUNDARY, BOX, BOXTYPE, DATATYPE, ENDEL, ENDLIB, ENDSTR, LAYER, NODE, PATH, SREF, STRNAME, TEXT, XY}
use Rattle.mpw_firm_skipping.specs.Found.{found_in}
use Rattle.mpw_firm_skipping.specs.declared.span.ElementSpan.{ElementSpan}
use Rattle.mpw_firm_skipping.specs.declared.span.Opened.{Opened}
use Rattle.mpw_firm_skipping.specs.declared.span.TheConstants.{TEXTTYPE, NODETYPE}

-- ---- records

abbrev pub begins : ℕ → Bool
begins kind =
    (kind == BOUNDARY) || (kind == PATH) || (kind == SREF) || (kind == AREF) || (kind == TEXT)
    || (kind == NODE)
    || (kind == BOX)

-- What ends an element, or can't be in one.
abbrev pub stops : ℕ → Bool
stops kind =
    (kind == ENDEL) || (kind == BGNSTR) || (kind == STRNAME) || (kind == ENDSTR)
    || (kind == ENDLIB)

abbrev pub is_type : ℕ → Bool
is_type kind = (kind == DATATYPE) || (kind == TEXTTYPE) || (kind == NODETYPE) || (kind == BOXTYPE)

-- The two-byte number at the front of the data.
abbrev pub number_of : List ℕ → Option ℕ
number_of (high ∷ low ∷ rest) = Some (high * 256 + low)
number_of _ = None

-- The number that was read first.
abbrev pub first_told : Option ℕ → Option ℕ → Option ℕ
first_told (Some number) next = Some number
first_told None next = next

-- The offset after a record.
abbrev pub end_of : RawRecord → ℕ
end_of r = min (min (r.offset + 4) (2 ^ 64 - 1) + length r.bytes) (2 ^ 64 - 1)

-- ---- an element that is open

-- The element that a record begins, in the structure whose STRNAME is at that offset.
abbrev pub begun : RawRecord → ℕ → ElementSpan
begun r structure = record {
  start = r.offset;
  end = end_of r;
  kind = r.kind;
  structure = structure;
  layer = None;
  datatype = None;
  points = None;
}

-- With its next record.
abbrev pub with_record : RawRecord → ElementSpan → ElementSpan
with_record r e = record {
  start = e.start;
  end = end_of r;
  kind = e.kind;
  structure = e.structure;
  layer = if r.kind == LAYER then first_told e.layer (number_of r.bytes) else e.layer;
  datatype = if is_type r.kind then first_told e.datatype (number_of r.bytes) else e.datatype;
  points = if r.kind == XY then first_told e.points (Some r.offset) else e.points;
}

-- The element that a record ends.
abbrev pub closed : RawRecord → Option ElementSpan → Option ElementSpan
closed r None = None
closed r (Some e) = if r.kind == ENDEL then Some (with_record r e) else None

-- TEXT and NODE may contain any record but ENDLIB, up to ENDEL.
abbrev pub is_text : Option ElementSpan → Bool
is_text None = false
is_text (Some e) = (e.kind == TEXT) || (e.kind == NODE)

abbrev pub is_inner : RawRecord → Option ElementSpan → Bool
is_inner r so_far = is_text so_far && not (r.kind == ENDEL) && not (r.kind == ENDLIB)

-- The element that is open after a record.
abbrev pub element_behind : RawRecord → Option ℕ → Option ElementSpan → Option ElementSpan
element_behind r structure so_far =
    if begins r.kind then option_map (begun r) structure else if stops r.kind then None
    else option_map (with_record r) so_far

-- The offset of the STRNAME of the structure that is open after a record: one begins without a name, and there is none after its end.
abbrev pub structure_behind : RawRecord → Option ℕ → Option ℕ
structure_behind r so_far =
    if r.kind == STRNAME then Some r.offset
    else if (r.kind == BGNSTR) || (r.kind == ENDSTR) || (r.kind == ENDLIB) then None
    else so_far

-- Both.
abbrev pub behind : RawRecord → Opened → Opened
behind r o =
    if is_inner r o.element
    then record { structure = o.structure; element = option_map (with_record r) o.element }
    else record {
      structure = structure_behind r o.structure;
      element = element_behind r o.structure o.element;
    }

-- ---- all elements

abbrev pub listed : Option ElementSpan → List ElementSpan
listed None = []
listed (Some e) = e ∷ []

-- The elements in a list of records, given what is open before them. A fault of a record's data ends no element.
unfoldable pub elements_in : Opened → List RecordOutcome → List ElementSpan
elements_in o [] = []
elements_in o (Err fault ∷ rest) = elements_in o rest
elements_in o (Ok r ∷ rest) = listed (closed r o.element) ++ elements_in (behind r o) rest

abbrev pub nothing_open : Opened
nothing_open = record { structure = None; element = None }

abbrev pub elements_of : List ℕ → List ElementSpan
elements_of text = elements_in nothing_open (found_in text)
