-- Sets of indexes below 512: an index is a bit of one of eight words.
use Rattle.std.specs.Prelude.{ℕ, ◌/◌, ◌%◌, Bool, ◌&&◌, ◌==◌, nat_lt, slice_index, count_by}
use Rattle.std.specs.Int.{bit_at}
use Rattle.std.specs.List.{range_with_len}
use Rattle.mpw_roles.specs.declared.mask.Mask.{Mask}

-- whether the index is in the set
unfoldable pub has : Mask → ℕ → Bool
has mask place =
    nat_lt place 512 && (bit_at (slice_index mask.words (place / 64)) (place % 64) == 1)

-- how many indexes are in both sets
unfoldable pub common : Mask → Mask → ℕ
common one other = count_by (λ place. has one place && has other place) (range_with_len 0 512)
