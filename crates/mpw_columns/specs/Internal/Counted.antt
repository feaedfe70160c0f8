-- How many keys columns have, up to the greatest number of 64 bits.
use Rattle.std.specs.Prelude.{ℕ, ◌+◌, ◌*◌, List, [], length, get_or, slice_get, unwrap_or}
use Rattle.std.specs.List.{range_with_len, sum_by}
use Rattle.mpw_markers.specs.declared.marker.Key.{Key}
use Rattle.mpw_columns_keys.specs.Firsts.{capped}
use Rattle.mpw_columns_keys.specs.declared.first.First.{First}

-- How many columns share the list that is `k` places after another; 1 if no number is there.
abbrev pub share_at : (shares : List ℕ) (from k : ℕ) → ℕ
share_at shares from k = unwrap_or (slice_get shares (capped (from + k))) 1

-- The keys of a list, as often as columns share it. The lists are those of the columns from an index on.
abbrev pub keys_at : (shares : List ℕ) (from : ℕ) (lists : List (List Key)) → ℕ → ℕ
keys_at shares from lists k = share_at shares from k * length (get_or lists k [])

abbrev pub keys_shared : (shares : List ℕ) (from : ℕ) (lists : List (List Key)) → ℕ
keys_shared shares from lists =
    capped (sum_by (keys_at shares from lists) (range_with_len 0 (length lists)))

-- The keys that are held of the lists of a column.
abbrev pub keys_held : List First → ℕ
keys_held lists = capped (sum_by (λ (f : First). length f.keys.items) lists)
