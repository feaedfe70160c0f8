-- The records of a text one by one, as long as their lengths are sound.
use Rattle.std.specs.Prelude.{ℕ, zero, suc, ◌+◌, ◌==◌, not, Bool, true, false, List, [], ◌∷◌, length, drop, Ok, Err, if◌then◌else◌}
use Rattle.mpw_records.specs.Records.{RecordOutcome, front, told_length}
use Rattle.mpw_records.specs.declared.fault.Code.{Code}
use Rattle.mpw_records.specs.declared.fault.Code.TheVariants.{BadType, BadSize}
use Rattle.mpw_records.specs.declared.kind.TheConstants.{ENDLIB}

-- The fault is one of a record's data, so that its length is sound.
abbrev pub is_of_data : Code → Bool
is_of_data BadType = true
is_of_data BadSize = true
is_of_data code = false

-- The next record is found after each record except ENDLIB, and after a fault of its data.
abbrev pub goes_on : RecordOutcome → Bool
goes_on (Ok r) = not (r.kind == ENDLIB)
goes_on (Err f) = is_of_data f.code

-- The records of a text from an offset on, at most the given number: records, and the faults of their data.
unfoldable pub found_from : ℕ → List ℕ → ℕ → List RecordOutcome
found_from zero text at = []
found_from (suc most) text at =
    front text at ∷ (if goes_on (front text at)
    then found_from most text (at + told_length (drop at text)) else [])

-- No text has more records than bytes.
abbrev pub found_in : List ℕ → List RecordOutcome
found_in text = found_from (length text) text 0
