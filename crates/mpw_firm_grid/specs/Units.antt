-- Units that are a part of a nanometre.
use Rattle.std.specs.Prelude.{ℕ, ◌*◌, ◌^◌, ◌%◌, ◌==◌, nat_le, Bool, List, slice_index, Option, None, if◌then◌else◌}
use Rattle.std.specs.List.{find, range_with_len}
use Rattle.byteorder.specs.Endian.{big_number}
use Rattle.mpw_real8.specs.Real.{is_nanometres}

-- A value in metres, times 2^312, is one of so many equal parts of a nanometre, within one part in 10^9.
abbrev pub is_share : (value parts : ℕ) → Bool
is_share value parts = is_nanometres (value * parts) 1

-- The first of `count` numbers, from `from` on, of which that is so.
unfoldable pub first_share : (value from count : ℕ) → Option ℕ
first_share value from count = find (is_share value) (range_with_len from count)

-- The parts, from 1 to 1000, of a real that is not below 0: its value times 2^312 is the mantissa times 16 to the power of the exponent.
abbrev pub parts_of : List ℕ → Option ℕ
parts_of bytes =
    if nat_le 128 (slice_index bytes 0) then None
    else first_share ((big_number 8 bytes % 2 ^ 56) * 16 ^ (slice_index bytes 0 % 128)) 1 1000

-- Lengths in such parts have finite decimals in nanometres. Up to 1000 no number has more than nine factors 2 or 5.
abbrev pub is_decimal : ℕ → Bool
is_decimal parts = 10 ^ 9 % parts == 0
