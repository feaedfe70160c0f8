-- Which structure is open, and which record comes last, before a byte of a text.
use Rattle.std.specs.Prelude.{ℕ, nat_lt, List, [], ◌∷◌, Option, Some, None, Ok, Err, if◌then◌else◌}
use Rattle.mpw_records.specs.Records.{RecordOutcome}
use Rattle.mpw_firm_skipping.specs.Elements.{behind, nothing_open}
use Rattle.mpw_firm_skipping.specs.Found.{found_in}
use Rattle.mpw_firm_skipping.specs.declared.span.Opened.{Opened}

-- ---- a record, or the fault in its place

abbrev pub offset_of : RecordOutcome → ℕ
offset_of (Ok r) = r.offset
offset_of (Err fault) = fault.offset

abbrev pub kind_of : RecordOutcome → Option ℕ
kind_of (Ok r) = Some r.kind
kind_of (Err fault) = None

-- A fault of a record's data begins and ends nothing.
abbrev pub opened_after : RecordOutcome → Opened → Opened
opened_after (Ok r) o = behind r o
opened_after (Err fault) o = o

-- ---- up to a byte

-- What is open after all that begins before a byte.
unfoldable pub opened_until : ℕ → Opened → List RecordOutcome → Opened
opened_until offset o [] = o
opened_until offset o (found ∷ rest) =
    if nat_lt (offset_of found) offset then opened_until offset (opened_after found o) rest else o

abbrev pub opened_before : List ℕ → ℕ → Opened
opened_before text offset = opened_until offset nothing_open (found_in text)

-- The offset of the STRNAME of the structure that is open there.
abbrev pub structure_before : List ℕ → ℕ → Option ℕ
structure_before text offset = (opened_before text offset).structure

-- The type of the last record that begins before a byte.
unfoldable pub kind_until : ℕ → Option ℕ → List RecordOutcome → Option ℕ
kind_until offset last [] = last
kind_until offset last (found ∷ rest) =
    if nat_lt (offset_of found) offset then kind_until offset (kind_of found) rest else last

abbrev pub kind_before : List ℕ → ℕ → Option ℕ
kind_before text offset = kind_until offset None (found_in text)
