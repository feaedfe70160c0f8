-- The structure that a record of a library's text is in.
use Rattle.std.specs.Prelude.{ℕ, List, Option, Some, None, option_and_then, Result, Ok, Err}
use Rattle.mpw_elements.specs.Values.{name_of}
use Rattle.mpw_records.specs.Records.{RecordOutcome, front}
use Rattle.mpw_records.specs.declared.fault.ReadFault.{ReadFault}
use Rattle.mpw_firm_skipping.specs.Before.{structure_before}

-- The name that is read of a record, if it is one.
abbrev pub read_name : Result (List ℕ) ReadFault → Option (List ℕ)
read_name (Ok name) = Some name
read_name (Err fault) = None

abbrev pub name_in : RecordOutcome → Option (List ℕ)
name_in (Ok r) = read_name (name_of r)
name_in (Err fault) = None

-- The name in the STRNAME of the structure that is open there.
abbrev pub structure_at : List ℕ → ℕ → Option (List ℕ)
structure_at text offset =
    option_and_then (λ named. name_in (front text named)) (structure_before text offset)
