-- The structure and the position of an element, by its records.
use Rattle.std.specs.Prelude.{ℕ, ◌==◌, List, Option, Some, None, option_and_then, Result, Ok, Err, if◌then◌else◌}
use Rattle.mpw_elements.specs.Values.{name_of, point_at}
use Rattle.mpw_geom.specs.declared.plane.Point.{Point}
use Rattle.mpw_records.specs.Records.{RecordOutcome, front}
use Rattle.mpw_records.specs.declared.fault.ReadFault.{ReadFault}
use Rattle.mpw_records.specs.declared.kind.TheConstants.{XY}

abbrev pub read : Result (List ℕ) ReadFault → Option (List ℕ)
read (Ok name) = Some name
read (Err fault) = None

-- The name in a record.
abbrev pub named : RecordOutcome → Option (List ℕ)
named (Ok r) = read (name_of r)
named (Err fault) = None

-- The name of the structure whose STRNAME is at an offset, if it is a valid name.
abbrev pub structure_of : List ℕ → ℕ → Option (List ℕ)
structure_of text at = named (front text at)

-- The first point of the XY at an offset, in nm.
abbrev pub pointed : ℕ → RecordOutcome → Option Point
pointed unit (Err fault) = None
pointed unit (Ok r) = if r.kind == XY then Some (point_at unit r.bytes 0) else None

abbrev pub first_point : ℕ → List ℕ → Option ℕ → Option Point
first_point unit text place = option_and_then (λ at. pointed unit (front text at)) place
