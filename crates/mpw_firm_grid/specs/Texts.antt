-- The unit of a library's text, and the text with a unit of 1 nm.
use Rattle.std.specs.Prelude.{ℕ, ◌+◌, ◌-◌, ◌^◌, ◌==◌, ◌&&◌, nat_le, min, List, [], ◌∷◌, ◌++◌, take, drop, Option, None, Some, option_map, Ok, Err, if◌then◌else◌}
use Rattle.mpw_firm_grid.specs.Units.{is_decimal, parts_of}
use Rattle.mpw_records.specs.Records.{RawRecord, RecordOutcome, outcomes_of}
use Rattle.mpw_records.specs.declared.kind.TheConstants.{UNITS}

-- The first UNITS, if no record before it has a fault.
unfoldable pub first_units : List RecordOutcome → Option RawRecord
first_units [] = None
first_units (Err fault ∷ rs) = None
first_units (Ok r ∷ rs) = if r.kind == UNITS then Some r else first_units rs

-- ---- the unit

-- The parts, if there are at least two and their lengths have finite decimals.
abbrev pub decimal_parts : Option ℕ → Option ℕ
decimal_parts None = None
decimal_parts (Some parts) = if nat_le 2 parts && is_decimal parts then Some parts else None

-- The second real of UNITS gives the unit in metres.
abbrev pub parts_in : RawRecord → Option ℕ
parts_in r = decimal_parts (parts_of (drop 8 r.bytes))

abbrev pub parts_with : Option RawRecord → Option ℕ
parts_with None = None
parts_with (Some r) = parts_in r

-- Into how many parts a nanometre is divided to get the unit of the text.
abbrev pub grid_parts : List ℕ → Option ℕ
grid_parts text = parts_with (first_units (outcomes_of text))

-- ---- the text on its grid

abbrev pub nanometre : List ℕ
nanometre = 57 ∷ 68 ∷ 184 ∷ 47 ∷ 160 ∷ 155 ∷ 90 ∷ 84 ∷ []

-- The metres come after the record's four bytes and its first real.
abbrev pub metres_place : List ℕ → Option ℕ
metres_place text =
    option_map (λ (r : RawRecord). min (r.offset + 12) (2 ^ 64 - 1)) (first_units (outcomes_of text))

abbrev pub with_metres : List ℕ → Option ℕ → List ℕ
with_metres text None = text
with_metres text (Some at) =
    take at text ++ (nanometre ++ drop (min (at + 8) (2 ^ 64 - 1)) text)

-- The same text with a unit of 1 nm.
abbrev pub on_grid : List ℕ → List ℕ
on_grid text = with_metres text (metres_place text)
