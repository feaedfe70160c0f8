-- The value of an eight-byte real (GDSII Stream, "Eight-byte real") as an exact number.
use Rattle.std.specs.Prelude.{ℕ, ◌*◌, ◌^◌, ◌%◌, nat_le, Bool, ℤ, pos, negsuc, neg_ℤ, ◌*ℤ◌, List, slice_index, Option, None, if◌then◌else◌}
use Rattle.std.specs.Int.{abs_diff}
use Rattle.std.specs.List.{find, range_with_len}
use Rattle.std.specs.Ordering.{int_eq}
use Rattle.byteorder.specs.Endian.{big_number}

-- A sign and a magnitude. Zero has no sign.
abbrev pub signed : Bool → ℕ → ℤ
signed negative magnitude = if negative then neg_ℤ (pos magnitude) else pos magnitude

-- The value times 2^312: the sign bit, then 16 to the power of the seven bits after it, times the mantissa of 56 bits.
-- (The real is mantissa / 2^56 * 16^(exponent - 64), and 56 + 4 * 64 is 312.)
abbrev pub real_value : List ℕ → ℤ
real_value bytes =
    signed (nat_le 128 (slice_index bytes 0))
    ((big_number 8 bytes % 2 ^ 56) * 16 ^ (slice_index bytes 0 % 128))

-- Whether a value, times 2^312, is a whole number.
abbrev pub is_whole : ℤ → ℤ → Bool
is_whole value number = int_eq value (number *ℤ pos (2 ^ 312))

-- Whether a value in metres, times 2^312, is a number of nanometres, within one part in 10^9.
abbrev pub is_nanometres : ℕ → ℕ → Bool
is_nanometres value number =
    nat_le (abs_diff (value * 10 ^ 9) (number * 2 ^ 312) * 10 ^ 9) (number * 2 ^ 312)

-- The first of `count` numbers, from `from` on, that is the value in nanometres.
unfoldable pub first_near : (value from count : ℕ) → Option ℕ
first_near value from count = find (is_nanometres value) (range_with_len from count)

-- The number of nanometres, from 1 to 1000, of a value in metres, times 2^312.
abbrev pub nanometres : ℤ → Option ℕ
nanometres (pos value) = first_near value 1 1000
nanometres (negsuc below) = None
