-- The data type and the data size of each record type whose data is tested (GDSII Stream, "Record types").
use Rattle.std.specs.Prelude.{ℕ, ◌%◌, ◌&&◌, ◌==◌, not, nat_le, Bool, true, false, Option, Some, None, if◌then◌else◌}
use Rattle.mpw_records.specs.declared.fault.Code.{Code}
use Rattle.mpw_records.specs.declared.fault.Code.TheVariants.{BadType, BadSize}
use Rattle.mpw_records.specs.declared.kind.TheConstants.{UNITS, STRNAME, SNAME, LAYER, DATATYPE, PATHTYPE, BOXTYPE, WIDTH, BGNEXTN, ENDEXTN, XY, COLROW, STRANS, MAG, ANGLE}

-- The data type is tested first.
abbrev pub form_fault : Bool → Bool → Option Code
form_fault false has_size = Some BadType
form_fault true false = Some BadSize
form_fault true true = None

-- The first fault of a record's data. For the other record types only the type is tested.
unfoldable pub data_fault : (kind data_type size : ℕ) → Option Code
data_fault kind data_type size =
    if kind == UNITS then form_fault (data_type == 5) (size == 16)
    else if kind == STRNAME then form_fault (data_type == 6) (nat_le 2 size)
    else if kind == LAYER then form_fault (data_type == 2) (size == 2)
    else if kind == DATATYPE then form_fault (data_type == 2) (size == 2)
    else if kind == WIDTH then form_fault (data_type == 3) (size == 4)
    else if kind == XY then form_fault (data_type == 3) (not (size == 0) && size % 8 == 0)
    else if kind == SNAME then form_fault (data_type == 6) (nat_le 2 size)
    else if kind == COLROW then form_fault (data_type == 2) (size == 4)
    else if kind == STRANS then form_fault (data_type == 1) (size == 2)
    else if kind == MAG then form_fault (data_type == 5) (size == 8)
    else if kind == ANGLE then form_fault (data_type == 5) (size == 8)
    else if kind == PATHTYPE then form_fault (data_type == 2) (size == 2)
    else if kind == BOXTYPE then form_fault (data_type == 2) (size == 2)
    else if kind == BGNEXTN then form_fault (data_type == 3) (size == 4)
    else if kind == ENDEXTN then form_fault (data_type == 3) (size == 4)
    else None

-- The least number of bytes of a record's data.
unfoldable pub least_size : ℕ → ℕ
least_size kind =
    if kind == UNITS then 16
    else if kind == STRNAME then 2
    else if kind == LAYER then 2
    else if kind == DATATYPE then 2
    else if kind == WIDTH then 4
    else if kind == XY then 8
    else if kind == SNAME then 2
    else if kind == COLROW then 4
    else if kind == STRANS then 2
    else if kind == MAG then 8
    else if kind == ANGLE then 8
    else if kind == PATHTYPE then 2
    else if kind == BOXTYPE then 2
    else if kind == BGNEXTN then 4
    else if kind == ENDEXTN then 4
    else 0
