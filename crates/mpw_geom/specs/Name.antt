-- Names: 1 to 255 bytes of visible ASCII, 21 to 7E hex.
use Rattle.std.specs.Prelude.{◌&&◌, ◌≤◌, ℕ, Bool, nat_le, List, length, All}
use Rattle.std.specs.List.{list_all}

-- visible ASCII without the space
abbrev pub IsVisible : ℕ → Type 0
IsVisible byte = (0x21 ≤ byte) × (byte ≤ 0x7E)

-- the bytes of a name
abbrev pub IsName : List ℕ → Type 0
IsName bytes = (1 ≤ length bytes) × (length bytes ≤ 255) × All IsVisible bytes

-- whether a byte is visible
abbrev pub is_visible : ℕ → Bool
is_visible byte = nat_le 0x21 byte && nat_le byte 0x7E

-- whether a word is 1 to 255 bytes of 21 to 7E hex
unfoldable pub is_visible_word : List ℕ → Bool
is_visible_word word =
    nat_le 1 (length word) && (nat_le (length word) 255 && list_all is_visible word)
