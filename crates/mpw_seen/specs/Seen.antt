-- Which submissions may be seen, and how many shapes of a flat list come from these.
use Rattle.std.specs.Prelude.{ℕ, Bool, false, List, slice_get, Option, None, Some}
use Rattle.std.specs.List.{count_by}
use Rattle.mpw_hier.specs.Items.{Item}

-- whether the submission of that number may be seen
abbrev pub is_seen : Option Bool → Bool
is_seen None = false
is_seen (Some seen) = seen

-- how many shapes of a flat list come from submissions that may be seen
unfoldable pub seen_items : List Bool → List Item → ℕ
seen_items seen items = count_by (λ (i : Item). is_seen (slice_get seen i.origin)) items
