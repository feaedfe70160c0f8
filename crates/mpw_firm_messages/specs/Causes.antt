-- What caused a library's fault, by the record that has it and those before and after it.
use Rattle.std.specs.Prelude.{ℕ, ◌+◌, ◌*◌, ◌==◌, ◌&&◌, ◌||◌, Bool, false, List, ◌∷◌, drop, slice_get, Option, None, Some, if◌then◌else◌}
use Rattle.mpw_records.specs.declared.fault.Code.{Code}
use Rattle.mpw_records.specs.declared.fault.Code.TheVariants.{NotManhattan, PointPath, Unexpected}
use Rattle.mpw_records.specs.declared.fault.ReadFault.{ReadFault}
use Rattle.mpw_records.specs.declared.kind.TheConstants.{XY, PROPATTR, PROPVALUE}
use Rattle.mpw_firm_skipping.specs.Before.{kind_before}
use Rattle.mpw_firm_messages.specs.declared.cause.Cause.{Cause}
use Rattle.mpw_firm_messages.specs.declared.cause.Cause.TheVariants as cause

-- the length of a text's first record
abbrev pub first_length : List ℕ → ℕ
first_length (high ∷ low ∷ rest) = high * 256 + low
first_length _ = 0

abbrev pub is_kind : ℕ → Option ℕ → Bool
is_kind kind None = false
is_kind kind (Some k) = k == kind

-- whether it is of that type
abbrev pub begins_with : ℕ → List ℕ → Bool
begins_with kind text = is_kind kind (slice_get text 2)

-- the text after it
abbrev pub behind_first : List ℕ → List ℕ
behind_first text = drop (first_length text) text

-- whether the last record before a byte is
abbrev pub is_behind : ℕ → List ℕ → ℕ → Bool
is_behind kind text at = is_kind kind (kind_before text at)

-- Of the record with that code at a byte: an XY before or after another, a property at a place where none may be, or what the code says.
unfoldable pub cause_at : Code → List ℕ → ℕ → Cause
cause_at NotManhattan text at =
    if begins_with XY (behind_first (drop at text)) then cause.Split else cause.Code
cause_at PointPath text at =
    if begins_with XY (behind_first (drop at text)) then cause.Split else cause.Code
cause_at Unexpected text at =
    if begins_with XY (drop at text) && is_behind XY text at then cause.Split
    else if begins_with PROPATTR (drop at text) || begins_with PROPVALUE (drop at text)
    then cause.Property
    else cause.Code
cause_at code text at = cause.Code

-- The same of a whole text; a fault of its first record is of one that isn't GDSII at all.
unfoldable pub cause_of : ReadFault → List ℕ → Cause
cause_of fault text =
    if fault.offset == 0 then cause.Foreign else cause_at fault.code text fault.offset
