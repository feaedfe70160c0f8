-- A good text that is cut off, or in which a record is changed: what is reported of it.
use Rattle.std.specs.Prelude.{◌≡◌, ◌<◌, ◌≤◌, ◌⊎◌, ℕ, ◌+◌, ◌*◌, ◌^◌, ◌%◌, List, ◌∷◌, ◌++◌, length, take, drop, Ok, Err}
use Rattle.mpw_structures.specs.declared.structures.Structure.{Structure}
use Rattle.mpw_records.specs.declared.fault.Code.{Code}
use Rattle.mpw_records.specs.declared.fault.Code.TheVariants.{Short, BadLength}
use Rattle.mpw_records.specs.declared.fault.ReadFault.{ReadFault}
use Rattle.mpw_records.specs.declared.kind.TheConstants.{ENDLIB}
use Rattle.mpw_records.specs.Records.{RawRecord, RecordOutcome, front, outcomes_of}
use Rattle.mpw_elements.specs.Derivation.{records_then}
use Rattle.mpw_library.specs.Grammar.{library_of}

-- A text has the record.
pub record HasRecord (text : List ℕ) (r : RawRecord) : Type 0 where
  pub before : List RawRecord
  pub behind : List RecordOutcome
  pub parts : outcomes_of text ≡ records_then before (Ok r ∷ behind)

-- Where a record ends: its header has four bytes.
abbrev pub end_of : RawRecord → ℕ
end_of r = r.offset + (4 + length r.bytes)

-- The text is refused with this code at this offset.
abbrev pub IsRefused : List ℕ → Code → ℕ → Type 0
IsRefused text code offset = library_of text ≡ Err (record { code = code; offset = offset })

-- If a text agrees with a good one up to a record's start, and no record is there, the fault of that place is
-- reported.
abbrev pub ChangedRecordsAreTold : Type 0
ChangedRecordsAreTold =
    (text changed : List ℕ) (ss : List Structure) (r : RawRecord) (fault : ReadFault)
    → library_of text ≡ Ok ss → HasRecord text r → take r.offset changed ≡ take r.offset text
    → front changed r.offset ≡ Err fault → library_of changed ≡ Err fault

-- And if a fault is reported after that start, none is reported before it.
abbrev pub FaultsComeNoEarlier : Type 0
FaultsComeNoEarlier =
    (text changed : List ℕ) (ss : List Structure) (r : RawRecord) (fault : ReadFault)
    → length changed < 2 ^ 63 → library_of text ≡ Ok ss → HasRecord text r
    → take r.offset changed ≡ take r.offset text → library_of changed ≡ Err fault
    → r.offset ≤ fault.offset

-- A text cut off within a record, from its first byte to before its last, is short there.
pub record IsCutShort (text : List ℕ) (n : ℕ) : Type 0 where
  pub r : RawRecord
  pub has : HasRecord text r
  pub begins : r.offset ≤ n
  pub ends : n < end_of r
  pub short : IsRefused (take n text) Short r.offset

-- A text cut off after ENDLIB has the same structures.
pub record IsCutBehind (text : List ℕ) (n : ℕ) (ss : List Structure) : Type 0 where
  pub r : RawRecord
  pub has : HasRecord text r
  pub last : r.kind ≡ ENDLIB
  pub ends : end_of r ≤ n
  pub same : library_of (take n text) ≡ Ok ss

-- This holds of each front of a good text: no front that lacks a byte of ENDLIB is good.
abbrev pub FrontsAreShort : Type 0
FrontsAreShort =
    (text : List ℕ) (ss : List Structure) (n : ℕ) → library_of text ≡ Ok ss
    → IsCutShort text n ⊎ IsCutBehind text n ss

-- A text with another length in the record at an offset: the two bytes of the length.
abbrev pub with_length : List ℕ → ℕ → (high low : ℕ) → List ℕ
with_length text offset high low = take offset text ++ high ∷ low ∷ drop (offset + 2) text

-- If the length of a record of a good text is made odd or less than 4, it is a bad length. If it is made
-- longer than what is left of the text, the text is short.
abbrev pub LengthsAreTested : Type 0
LengthsAreTested =
    (text : List ℕ) (ss : List Structure) (r : RawRecord) (high low : ℕ) → library_of text ≡ Ok ss
    → HasRecord text r
    → ((high * 256 + low < 4) ⊎ ((high * 256 + low) % 2 ≡ 1)
    → IsRefused (with_length text r.offset high low) BadLength r.offset)
    × (4 ≤ high * 256 + low → (high * 256 + low) % 2 ≡ 0
    → length text < r.offset + (high * 256 + low)
    → IsRefused (with_length text r.offset high low) Short r.offset)
