-- Digests as text.
use Rattle.std.specs.Prelude.{◌≡◌, ℕ, List, Ok}
use Rattle.hex.specs.Hex.{decode_of}

-- the text spells the digest: two hexadecimal digits of either case a byte, the high four bits first
abbrev pub Spells : List ℕ → List ℕ → Type 0
Spells text digest = decode_of text ≡ Ok digest
