-- Lengths in micrometres.
use Rattle.std.specs.Prelude.{ℕ, ◌<◌, ◌+◌, ◌*◌, ◌/◌, ◌%◌, ◌==◌, ℤ, pos, negsuc, neg_ℤ, unsigned_abs, List, [], ◌∷◌, ◌++◌, codes, if◌then◌else◌}
use Rattle.std.specs.Fmt.{decimal}

-- the digits of the hundredth and the thousandth, for a number of thousandths below a hundred; without zeros at the end
unfoldable pub last_digits : ℕ → List ℕ
last_digits n = if n == 0 then [] else if n % 10 == 0 then decimal (n / 10) else decimal (n / 10)
    ++ decimal (n % 10)

-- the digits of a number of thousandths below one, after a point; nothing for 0
unfoldable pub fraction : ℕ → List ℕ
fraction n = if n == 0 then [] else codes "." ++ decimal (n / 100) ++ last_digits (n % 100)

-- a number of thousandths, as a decimal
abbrev pub thousandths : ℕ → List ℕ
thousandths n = decimal (n / 1000) ++ fraction (n % 1000)

-- the sign of a length
unfoldable pub sign_text : ℤ → List ℕ
sign_text (pos n) = []
sign_text (negsuc n) = codes "-"

-- a length in nm, written in micrometres
unfoldable pub micrometres : ℤ → List ℕ
micrometres nm = sign_text nm ++ thousandths (unsigned_abs nm)

-- ---- what a reader of decimals gets

-- A point and one to three digits, or nothing, represent a number of thousandths.
pub data IsFraction : List ℕ → ℕ → Type 0 where
  none : IsFraction [] 0
  one : (a : ℕ) → a < 10 → IsFraction (0x2E ∷ (0x30 + a) ∷ []) (a * 100)
  two : (a b : ℕ) → a < 10 → b < 10 → IsFraction (0x2E ∷ (0x30 + a) ∷ (0x30 + b) ∷ [])
      (a * 100 + b * 10)
  three : (a b c : ℕ) → a < 10 → b < 10 → c < 10
      → IsFraction (0x2E ∷ (0x30 + a) ∷ (0x30 + b) ∷ (0x30 + c) ∷ []) (a * 100 + b * 10 + c)

-- A whole number and a fraction after it, with or without a sign before them, represent a number of thousandths.
pub data IsLength : List ℕ → ℤ → Type 0 where
  positive : (whole part : ℕ) (text : List ℕ) → IsFraction text part
      → IsLength (decimal whole ++ text) (pos (whole * 1000 + part))
  negative : (whole part : ℕ) (text : List ℕ) → IsFraction text part
      → IsLength (0x2D ∷ (decimal whole ++ text)) (neg_ℤ (pos (whole * 1000 + part)))

-- Each length is written exactly.
abbrev pub AreExact : Type 0
AreExact = (nm : ℤ) → IsLength (micrometres nm) nm
