-- Where an unexpected record is: the records before it are the front of some library's records,
-- and with it they are the front of none.
use Rattle.std.specs.Prelude.{◌≡◌, ◌<◌, ◌^◌, ℕ, ◌%◌, ◌&&◌, ◌==◌, Bool, true, nat_lt, List, [], ◌∷◌, ◌++◌, length, is_none, Ok, Err, ⊤}
use Rattle.std.specs.List.{list_all}
use Rattle.mpw_structures.specs.declared.structures.Structure.{Structure}
use Rattle.mpw_records.specs.declared.fault.Code.TheVariants.{Unexpected}
use Rattle.mpw_records.specs.Format.{data_fault}
use Rattle.mpw_records.specs.Records.{RawRecord, RecordOutcome, outcomes_of}
use Rattle.mpw_elements.specs.declared.fault.ReadError.{ReadError}
use Rattle.mpw_elements.specs.declared.fault.ReadError.TheVariants as errors
use Rattle.mpw_elements.specs.Derivation.{records_then}
use Rattle.mpw_library.specs.Grammar.{library_of}
use Rattle.mpw_library.specs.Derivation.{DerivesLibrary}

abbrev pub is_byte : ℕ → Bool
is_byte b = nat_lt b 256

-- A record as it is in a text without fault: bytes, an even number that its length can state, with
-- the type and the size that its record type requires.
abbrev pub is_formed : RawRecord → Bool
is_formed r =
    is_none (data_fault r.kind r.data_type (length r.bytes)) && (length r.bytes % 2 == 0)
    && nat_lt (length r.bytes) 65532
    && is_byte r.kind && is_byte r.data_type && list_all is_byte r.bytes

-- Some library's records begin with these, and its other records are as they are in a text.
pub record IsFront (records : List RawRecord) : Type 0 where
  pub behind : List RawRecord
  pub formed : list_all is_formed behind ≡ true
  pub structures : List Structure
  pub derived : DerivesLibrary (records ++ behind) structures

-- At that offset is the first record of the text with which no library's records can continue.
pub record IsFirstUnexpected (text : List ℕ) (offset : ℕ) : Type 0 where
  pub before : List RawRecord
  pub refused : RawRecord
  pub rest : List RecordOutcome
  pub parts : outcomes_of text ≡ records_then before (Ok refused ∷ rest)
  pub stands : refused.offset ≡ offset
  pub goes_on : IsFront before
  pub ends : IsFront (before ++ refused ∷ []) → ⊥

-- If reading reports an unexpected record, its offset is that of the first record with which no
-- library's records can continue.
abbrev pub UnexpectedIsFirst : Type 0
UnexpectedIsFirst = (text : List ℕ) (offset : ℕ) → length text < 2 ^ 64
    → library_of text ≡ Err (record { code = Unexpected; offset = offset })
    → IsFirstUnexpected text offset

-- The same for what a reader reports.
abbrev pub IsToldFirst : List ℕ → ReadError → Type 0
IsToldFirst text errors.Memory = ⊤
IsToldFirst text (errors.Fault f) = f.code ≡ Unexpected → IsFirstUnexpected text f.offset
