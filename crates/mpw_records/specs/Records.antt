-- The records of a text: the first begins at 0, and each next one where the one before ends.
use Rattle.std.specs.Prelude.{◌≤◌, ℕ, zero, suc, ◌+◌, ◌-◌, ◌%◌, ◌||◌, ◌==◌, nat_lt, Bool, true, List, [], ◌∷◌, length, drop, slice_index, slice_range, Option, Some, None, Result, Ok, Err, if◌then◌else◌}
use Rattle.byteorder.specs.Endian.{big_number}
use Rattle.mpw_records.specs.declared.fault.Code.{Code}
use Rattle.mpw_records.specs.declared.fault.Code.TheVariants.{Short, BadLength}
use Rattle.mpw_records.specs.declared.fault.ReadFault.{ReadFault}
use Rattle.mpw_records.specs.declared.kind.TheConstants.{ENDLIB}
use Rattle.mpw_records.specs.declared.record.Record.{Record}
use Rattle.mpw_records.specs.Format.{data_fault, least_size}

-- A record: its offset in the text, its type, its data type and its data.
pub record RawRecord : Type 0 where
  pub offset : ℕ
  pub kind : ℕ
  pub data_type : ℕ
  pub bytes : List ℕ

-- The data has at least the size that the record type requires.
abbrev pub IsSized : RawRecord → Type 0
IsSized r = least_size r.kind ≤ length r.bytes

-- A record without the address of its data in memory.
abbrev pub raw : Record → RawRecord
raw r = record { offset = r.offset; kind = r.kind; data_type = r.data_type; bytes = r.bytes.now }

-- A record, or the fault in its place.
abbrev pub RecordOutcome : Type 0
RecordOutcome = Result RawRecord ReadFault

abbrev pub seen : Result Record ReadFault → Result RawRecord ReadFault
seen (Ok r) = Ok (raw r)
seen (Err f) = Err f

-- The number of bytes that a record states, including its header.
abbrev pub told_length : List ℕ → ℕ
told_length bytes = big_number 2 bytes

-- The first fault of the bytes' front, in the order of the tests.
abbrev pub first_fault : List ℕ → Option Code
first_fault bytes =
    if nat_lt (length bytes) 4 then Some Short
    else if nat_lt (told_length bytes) 4 || (told_length bytes % 2 == 1) then Some BadLength
    else if nat_lt (length bytes) (told_length bytes) then Some Short
    else data_fault (slice_index bytes 2) (slice_index bytes 3) (told_length bytes - 4)

-- The record that the bytes begin with, if it has no fault.
abbrev pub record_of : ℕ → List ℕ → RawRecord
record_of offset bytes =
    record {
      offset = offset;
      kind = slice_index bytes 2;
      data_type = slice_index bytes 3;
      bytes = slice_range bytes 4 (told_length bytes);
    }

abbrev pub unless_fault : Option Code → RawRecord → Result RawRecord ReadFault
unless_fault None r = Ok r
unless_fault (Some code) r = Err (record { code = code; offset = r.offset })

-- The record at an offset of a text, or the fault in its place.
abbrev pub front : List ℕ → ℕ → Result RawRecord ReadFault
front text offset =
    unless_fault (first_fault (drop offset text)) (record_of offset (drop offset text))

-- Nothing is read after ENDLIB or after a fault.
abbrev pub is_last : Result RawRecord ReadFault → Bool
is_last (Ok r) = r.kind == ENDLIB
is_last (Err f) = true

-- The first records from an offset on, at most the given number.
unfoldable pub outcomes : ℕ → List ℕ → ℕ → List RecordOutcome
outcomes zero text offset = []
outcomes (suc most) text offset =
    front text offset ∷ (if is_last (front text offset) then []
    else outcomes most text (offset + told_length (drop offset text)))

-- The records from an offset on. No text has more records than bytes, with the fault after them.
abbrev pub outcomes_from : List ℕ → ℕ → List RecordOutcome
outcomes_from text offset = outcomes (suc (length text)) text offset

-- The records of a text up to ENDLIB, or up to the first fault and that fault.
abbrev pub outcomes_of : List ℕ → List RecordOutcome
outcomes_of text = outcomes_from text 0
