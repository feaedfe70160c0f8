-- The coordinates of a line, in nm.
use Rattle.std.specs.Prelude.{FitsSigned, ℕ, ℤ, pos, neg_ℤ, List, [], ◌∷◌, Option, None, option_map, ◌==◌, if◌then◌else◌}
use Rattle.std.specs.Int.{w64}
use Rattle.mpw_text.specs.Text.{number_of}
use Rattle.mpw_wire.specs.declared.operand.Origin.{Origin}
use Rattle.mpw_wire.specs.declared.operand.Origin.TheVariants.{Connection, Store}

-- how far below 0 a coordinate may be: 2^30 nm on a connection, and in a store as far as 64 bits allow
unfoldable pub farthest_below : Origin → ℕ
farthest_below Connection = 1073741824
farthest_below Store = 9223372036854775808

-- the same above 0
unfoldable pub farthest_above : Origin → ℕ
farthest_above Connection = 1073741824
farthest_above Store = 9223372036854775807

abbrev pub negative : ℕ → ℤ
negative number = neg_ℤ (pos number)

-- the coordinate that a word spells: a number, or a minus sign and a number that isn't 0
unfoldable pub coordinate_of : Origin → List ℕ → Option ℤ
coordinate_of origin [] = None
coordinate_of origin (first ∷ rest) =
    if first == 0x2D then option_map negative (number_of 1 (farthest_below origin) rest)
    else option_map pos (number_of 0 (farthest_above origin) (first ∷ rest))

-- a number of 64 bits
abbrev pub IsSigned : ℤ → Type 0
IsSigned z = FitsSigned w64 z
