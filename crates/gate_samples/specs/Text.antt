-- The text of records (GDSII Stream, "Record format" and "Stream syntax").
use Rattle.std.specs.Prelude.{◌≡◌, ℕ, ◌+◌, ◌%◌, ◌==◌, nat_lt, Bool, false, IsTrue, ℤ, List, [], ◌∷◌, ◌++◌, length, replicate, Result, Ok, Err, if◌then◌else◌}
use Rattle.std.specs.Int.{w32, bytes_high_first, cast_unsigned}
use Rattle.std.specs.List.{flat_map, list_any}
use Rattle.mpw_records.specs.declared.kind.TheConstants.{HEADER, BGNLIB, LIBNAME, UNITS, ENDLIB, BGNSTR, STRNAME, ENDSTR, BOUNDARY, SREF, AREF, LAYER, DATATYPE, XY, ENDEL, SNAME, COLROW}
use Rattle.gate_samples.specs.declared.error.SampleError.{SampleError}
use Rattle.gate_samples.specs.declared.error.SampleError.TheVariants as errors
use Rattle.gate_samples.specs.declared.record.NewRecord.{NewRecord}

-- A record: its type, its data type and its data.
pub record RecordData : Type 0 where
  pub kind : ℕ
  pub data_type : ℕ
  pub bytes : List ℕ

-- A record, whatever address its data has.
abbrev pub raw : NewRecord → RecordData
raw r = record { kind = r.0; data_type = r.1; bytes = r.2.now }

-- The length, which counts the four bytes of the header, the record type, the data type and the data.
abbrev pub record_bytes : RecordData → List ℕ
record_bytes r = bytes_high_first 2 (length r.bytes + 4) ++ r.kind ∷ r.data_type ∷ r.bytes

-- Records one after another.
unfoldable pub text_of : List RecordData → List ℕ
text_of rs = flat_map record_bytes rs

-- A length of two bytes allows at most 65531 bytes of data.
abbrev pub is_too_long : RecordData → Bool
is_too_long r = nat_lt 65531 (length r.bytes)

unfoldable pub has_too_long : List RecordData → Bool
has_too_long rs = list_any is_too_long rs

-- A call that adds records: they come after the old text, or nothing has changed.
abbrev pub Adds : {X : Type 0} → Result X SampleError → List ℕ → List ℕ → List RecordData → Type 0
Adds (Ok x) old new rs = (has_too_long rs ≡ false) × (new ≡ old ++ text_of rs)
Adds (Err errors.TooLong) old new rs = IsTrue (has_too_long rs) × (new ≡ old)
Adds (Err errors.Memory) old new rs = new ≡ old

-- The result of a call, as contracts see it: the records after a front.
abbrev pub Gives : {X : Type 0} → (X → List ℕ) → Result X SampleError → (front : List ℕ)
    → List RecordData → Type 0
Gives view (Ok x) front rs = (has_too_long rs ≡ false) × (view x ≡ front ++ text_of rs)
Gives view (Err errors.TooLong) front rs = IsTrue (has_too_long rs)
Gives view (Err errors.Memory) front rs = Unit {0}

-- ---- data

-- A two-byte number and a four-byte signed one, the highest byte first.
abbrev pub two_bytes : ℕ → List ℕ
two_bytes n = bytes_high_first 2 n

abbrev pub four_bytes : ℤ → List ℕ
four_bytes z = bytes_high_first 4 (cast_unsigned w32 z)

-- A text is padded with a NUL to an even length.
unfoldable pub padded : List ℕ → List ℕ
padded text = if length text % 2 == 1 then text ++ 0 ∷ [] else text

abbrev pub point_bytes : ℤ × ℤ → List ℕ
point_bytes p = four_bytes p.0 ++ four_bytes p.1

unfoldable pub points_bytes : List (ℤ × ℤ) → List ℕ
points_bytes points = flat_map point_bytes points

-- ---- records

-- A record without data.
abbrev pub bare : ℕ → RecordData
bare kind = record { kind = kind; data_type = 0; bytes = [] }

abbrev pub short : ℕ → ℕ → RecordData
short kind number = record { kind = kind; data_type = 2; bytes = two_bytes number }

abbrev pub long : ℕ → ℤ → RecordData
long kind number = record { kind = kind; data_type = 3; bytes = four_bytes number }

abbrev pub string : ℕ → List ℕ → RecordData
string kind bytes = record { kind = kind; data_type = 6; bytes = padded bytes }

abbrev pub xy : List (ℤ × ℤ) → RecordData
xy ps = record { kind = XY; data_type = 3; bytes = points_bytes ps }

-- The dates of a library or a structure, all zero.
abbrev pub dates : ℕ → RecordData
dates kind = record { kind = kind; data_type = 2; bytes = replicate 24 0 }

-- ---- parts of a library

-- 0.001, the database unit in user units.
abbrev pub user_unit : List ℕ
user_unit = 0x3E ∷ 0x41 ∷ 0x89 ∷ 0x37 ∷ 0x4B ∷ 0xC6 ∷ 0xA7 ∷ 0xF0 ∷ []

-- HEADER BGNLIB LIBNAME UNITS, of release 6 and of the name LB.
abbrev pub head : List ℕ → List RecordData
head unit = short HEADER 600 ∷ dates BGNLIB
    ∷ record { kind = LIBNAME; data_type = 6; bytes = 76 ∷ 66 ∷ [] }
    ∷ record { kind = UNITS; data_type = 5; bytes = user_unit ++ unit } ∷ []

abbrev pub begin : List ℕ → List RecordData
begin name = dates BGNSTR ∷ string STRNAME name ∷ []

abbrev pub boundary : (layer datatype : ℕ) → List (ℤ × ℤ) → List RecordData
boundary layer datatype ps =
    bare BOUNDARY ∷ short LAYER layer ∷ short DATATYPE datatype ∷ xy ps ∷ bare ENDEL ∷ []

abbrev pub single : List ℕ → ℤ → ℤ → List RecordData
single name x y = bare SREF ∷ string SNAME name ∷ xy ((x, y) ∷ []) ∷ bare ENDEL ∷ []

abbrev pub array : List ℕ → (columns rows : ℕ) → List (ℤ × ℤ) → List RecordData
array name columns rows ps =
    bare AREF ∷ string SNAME name ∷ record {
      kind = COLROW;
      data_type = 2;
      bytes = two_bytes columns
          ++ two_bytes rows;
    } ∷ xy ps ∷ bare ENDEL ∷ []

abbrev pub end : List RecordData
end = bare ENDSTR ∷ []

abbrev pub last : List RecordData
last = bare ENDLIB ∷ []
