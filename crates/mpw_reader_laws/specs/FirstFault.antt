-- Where a refused text has its first fault: at the first record that no library's records have there.
use Rattle.std.specs.Prelude.{◌≡◌, ◌<◌, ◌^◌, ◌⊎◌, ℕ, List, ◌∷◌, ◌++◌, length, Ok, Err, IsErrAnd, ⊤}
use Rattle.mpw_structures.specs.declared.structures.Structure.{Structure}
use Rattle.mpw_records.specs.declared.fault.Code.TheVariants.{Unexpected, DoubleName}
use Rattle.mpw_records.specs.declared.fault.ReadFault.{ReadFault}
use Rattle.mpw_records.specs.declared.kind.TheConstants.{UNITS, STRNAME, WIDTH, XY, SNAME, COLROW, STRANS, MAG, ANGLE, PATHTYPE}
use Rattle.mpw_records.specs.Records.{RawRecord, RecordOutcome, outcomes_of}
use Rattle.mpw_elements.specs.Reading.{fault_at}
use Rattle.mpw_elements.specs.Values.{corners_of, centre_of, origin_of, path_type_of, width_of, name_of, mirrored_of, magnification_of, turns_of, counts_of, grid_of}
use Rattle.mpw_elements.specs.Derivation.{records_then}
use Rattle.mpw_library.specs.Grammar.{unit_of, library_of}
use Rattle.mpw_library.specs.Derivation.{DerivesLibrary}
use Rattle.mpw_library.specs.Fronts.{IsFront}

-- A fault of a record in a text: of its place, or of the value of its type.
pub data IsFaultOf (r : RawRecord) (f : ReadFault) : Type 0 where
  misplaced : f ≡ fault_at Unexpected r → IsFaultOf r f
  unit : r.kind ≡ UNITS → unit_of r ≡ Err f → IsFaultOf r f
  name : (r.kind ≡ STRNAME) ⊎ (r.kind ≡ SNAME) → name_of r ≡ Err f → IsFaultOf r f
  taken : (name : List ℕ) → r.kind ≡ STRNAME → name_of r ≡ Ok name → f ≡ fault_at DoubleName r
      → IsFaultOf r f
  flags : r.kind ≡ STRANS → mirrored_of r ≡ Err f → IsFaultOf r f
  magnification : r.kind ≡ MAG → magnification_of r ≡ Err f → IsFaultOf r f
  angle : r.kind ≡ ANGLE → turns_of r ≡ Err f → IsFaultOf r f
  path_type : r.kind ≡ PATHTYPE → path_type_of r ≡ Err f → IsFaultOf r f
  width : (unit : ℕ) → r.kind ≡ WIDTH → width_of unit r ≡ Err f → IsFaultOf r f
  counts : r.kind ≡ COLROW → counts_of r ≡ Err f → IsFaultOf r f
  corners : (unit : ℕ) → r.kind ≡ XY → corners_of unit r ≡ Err f → IsFaultOf r f
  centre : (unit : ℕ) → r.kind ≡ XY → centre_of unit r ≡ Err f → IsFaultOf r f
  origin : (unit : ℕ) → r.kind ≡ XY → origin_of unit r ≡ Err f → IsFaultOf r f
  grid : (unit columns rows : ℕ) → r.kind ≡ XY → grid_of unit columns rows r ≡ Err f
      → IsFaultOf r f

-- A fault at a place: the fault in place of a record, or one of the record's.
abbrev pub IsFaultThere : RecordOutcome → ReadFault → Type 0
IsFaultThere (Err g) f = g ≡ f
IsFaultThere (Ok r) f = IsFaultOf r f

-- After these records there is no record, or one such that no library's records begin with all of them.
abbrev pub EndsThere : List RawRecord → RecordOutcome → Type 0
EndsThere before (Err g) = ⊤
EndsThere before (Ok r) =
    (behind : List RawRecord) (ss : List Structure) → DerivesLibrary (before ++ r ∷ behind) ss → ⊥

-- The first fault of a text: the records before it have no fault, and some library's records begin with them;
-- with the next outcome none does; and the fault is one of that outcome.
pub record IsFirstFault (text : List ℕ) (fault : ReadFault) : Type 0 where
  pub before : List RawRecord
  pub there : RecordOutcome
  pub rest : List RecordOutcome
  pub parts : outcomes_of text ≡ records_then before (there ∷ rest)
  pub goes_on : IsFront before
  pub ends : EndsThere before there
  pub is : IsFaultThere there fault

-- The fault that is reported of a refused text is its first fault.
abbrev pub FirstFaultIsTold : Type 0
FirstFaultIsTold =
    (text : List ℕ) (fault : ReadFault) → length text < 2 ^ 63 → library_of text ≡ Err fault
    → IsFirstFault text fault

-- And a text with a first fault is refused, at that offset and at no other.
abbrev pub FirstFaultIsRefused : Type 0
FirstFaultIsRefused =
    (text : List ℕ) (fault : ReadFault) → length text < 2 ^ 63 → IsFirstFault text fault
    → IsErrAnd (library_of text) (λ told. told.offset ≡ fault.offset)
