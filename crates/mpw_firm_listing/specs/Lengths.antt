-- Lengths that count parts of a nanometre, written in nanometres.
use Rattle.std.specs.Prelude.{◌≡◌, ℕ, zero, suc, ◌<◌, ◌≤◌, ◌+◌, ◌*◌, ◌/◌, ◌%◌, ◌^◌, ◌==◌, ℤ, pos, negsuc, neg_ℤ, unsigned_abs, List, [], ◌∷◌, ◌++◌, codes, if◌then◌else◌}
use Rattle.std.specs.Fmt.{decimal}

-- The decimals of so many parts, fewer than a nanometre has, by long division.
unfoldable pub decimals : (left parts rest : ℕ) → List ℕ
decimals zero parts rest = []
decimals (suc left) parts rest =
    if rest == 0 then [] else decimal (rest * 10 / parts) ++ decimals left parts (rest * 10 % parts)

-- They come after a point; 0 has none. A number of parts up to 1000 that divides 10^9 needs at most nine.
unfoldable pub fraction : (parts rest : ℕ) → List ℕ
fraction parts rest = if rest == 0 then [] else codes "." ++ decimals 9 parts rest

unfoldable pub sign_text : ℤ → List ℕ
sign_text (pos n) = []
sign_text (negsuc n) = codes "-"

abbrev pub magnitude_text : (parts : ℕ) → ℕ → List ℕ
magnitude_text parts n = decimal (n / parts) ++ fraction parts (n % parts)

-- A length of so many parts.
unfoldable pub length_text : (parts : ℕ) → ℤ → List ℕ
length_text parts z = sign_text z ++ magnitude_text parts (unsigned_abs z)

-- ---- what a reader of decimals gets

-- Digits represent a number; they are `count`.
pub data AreDigits : (text : List ℕ) → (count value : ℕ) → Type 0 where
  none : AreDigits [] 0 0
  more : (digit count value : ℕ) (text : List ℕ) → digit < 10 → AreDigits text count value
      → AreDigits ((0x30 + digit) ∷ text) (suc count) (digit * 10 ^ count + value)

-- Nothing, or a point and digits.
pub data IsFraction : (text : List ℕ) → (count value : ℕ) → Type 0 where
  none : IsFraction [] 0 0
  some : (count value : ℕ) (text : List ℕ) → AreDigits text count value
      → IsFraction (0x2E ∷ text) count value

-- A whole number and a fraction after it, with or without a sign before them, represent one of so many parts for each part of the length.
pub data IsLength (parts : ℕ) : List ℕ → ℤ → Type 0 where
  positive : (length whole count value : ℕ) (text : List ℕ) → IsFraction text count value
      → (whole * 10 ^ count + value) * parts ≡ length * 10 ^ count
      → IsLength parts (decimal whole ++ text) (pos length)
  negative : (length whole count value : ℕ) (text : List ℕ) → IsFraction text count value
      → (whole * 10 ^ count + value) * parts ≡ length * 10 ^ count
      → IsLength parts (0x2D ∷ (decimal whole ++ text)) (neg_ℤ (pos length))

-- Each length is written exactly, if a billion is a multiple of the number of parts.
abbrev pub LengthsAreExact : Type 0
LengthsAreExact =
    (parts : ℕ) (z : ℤ) → 1 ≤ parts → 10 ^ 9 % parts ≡ 0 → IsLength parts (length_text parts z) z
