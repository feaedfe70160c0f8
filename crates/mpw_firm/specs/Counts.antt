-- How many markers a part's columns have.
use Rattle.std.specs.Prelude.{ℕ, ◌-◌, ◌^◌, min, sum_by, Bool, List, length, nat_lt}
use Rattle.mpw_markers.specs.declared.marker.Key.{Key}

-- A column's list has a marker: status 1.
abbrev pub has_some : List Key → Bool
has_some list = nat_lt 0 (length list)

-- How many markers the columns' lists have together, up to the greatest number of 64 bits.
abbrev pub count_of : List (List Key) → ℕ
count_of lists = min (sum_by (λ list. length list) lists) (2 ^ 64 - 1)
