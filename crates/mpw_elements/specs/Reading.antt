-- Reading a list of records: what was read and the records after it, or the first fault.
use Rattle.std.specs.Prelude.{◌≡◌, ℕ, ◌||◌, ◌==◌, Bool, List, [], ◌∷◌, Result, Ok, Err, if◌then◌else◌}
use Rattle.mpw_records.specs.declared.fault.Code.{Code}
use Rattle.mpw_records.specs.declared.fault.Code.TheVariants.{Unexpected}
use Rattle.mpw_records.specs.declared.fault.ReadFault.{ReadFault}
use Rattle.mpw_records.specs.declared.kind.TheConstants.{ELFLAGS, PLEX, PROPATTR, PROPVALUE}
use Rattle.mpw_records.specs.Records.{RawRecord, RecordOutcome}
use Rattle.mpw_elements.specs.declared.fault.ReadError.{ReadError}
use Rattle.mpw_elements.specs.declared.fault.ReadError.TheVariants as errors

abbrev pub Reading : Type 0 → Type 0
Reading X = Result (X × List RecordOutcome) ReadFault

-- One step of reading after another.
infixl 10 ◌>>=◌
abbrev pub ◌>>=◌ : {A B : Type 0} → Result A ReadFault → (A → Result B ReadFault)
    → Result B ReadFault
(Ok x) >>= f = f x
(Err e) >>= f = Err e

-- A function's result, mapped by view, and the records that it left are what reading gives, unless it ran out of memory.
abbrev pub Fails : {Y : Type 0} → ReadError → Result Y ReadFault → Type 0
Fails errors.Memory read = Unit {0}
Fails (errors.Fault f) read = read ≡ Err f

abbrev pub GivesReading : {X Y : Type 0} → (X → Y) → Result X ReadError → List RecordOutcome
    → Reading Y → Type 0
GivesReading view (Ok x) rest read = read ≡ Ok (view x, rest)
GivesReading view (Err e) rest read = Fails e read

-- The same if no records are read.
abbrev pub GivesValue : {X Y : Type 0} → (X → Y) → Result X ReadError → Result Y ReadFault → Type 0
GivesValue view (Ok x) read = read ≡ Ok (view x)
GivesValue view (Err e) read = Fails e read

-- A fault of a record.
abbrev pub fault_at : Code → RawRecord → ReadFault
fault_at code r = record { code = code; offset = r.offset }

-- ELFLAGS, PLEX, PROPATTR and PROPVALUE may be anywhere in an element, and don't concern its shape.
abbrev pub is_skipped : ℕ → Bool
is_skipped kind = (kind == ELFLAGS) || (kind == PLEX) || (kind == PROPATTR) || (kind == PROPVALUE)

-- The next record of an element that isn't skipped. If no records are left, the element's beginning is unexpected.
unfoldable pub field : ℕ → List RecordOutcome → Reading RawRecord
field start [] = Err (record { code = Unexpected; offset = start })
field start (Err f ∷ rs) = Err f
field start (Ok r ∷ rs) = if is_skipped r.kind then field start rs else Ok (r, rs)

-- A record, which must have this type.
unfoldable pub demanded : ℕ → RawRecord → Result RawRecord ReadFault
demanded kind r = if r.kind == kind then Ok r else Err (fault_at Unexpected r)

-- The next record of an element, which must have this type.
unfoldable pub expected : ℕ → ℕ → List RecordOutcome → Reading RawRecord
expected start kind rs = do
  next ← field start rs
  r ← demanded kind next.0
  Ok (r, next.1)

-- An optional next record, with its value, or else a default; and the record after it.
unfoldable pub optional : {V : Type 0} → ℕ → ℕ → (RawRecord → Result V ReadFault) → V → RawRecord
    → List RecordOutcome → Reading (V × RawRecord)
optional start kind value default r rs =
    if r.kind == kind then (do
      v ← value r
      next ← field start rs
      Ok ((v, next.0), next.1)) else Ok ((default, r), rs)
