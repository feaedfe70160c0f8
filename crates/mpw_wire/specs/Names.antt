-- The name that a word of a line is.
use Rattle.std.specs.Prelude.{ℕ, List, codes, Option, Some, None, option_and_then, if◌then◌else◌}
use Rattle.mpw_geom.specs.Name.{is_visible_word}
use Rattle.mpw_geom.specs.Names.{name_eq}
use Rattle.mpw_wire.specs.declared.operand.Origin.{Origin}
use Rattle.mpw_wire.specs.declared.operand.Origin.TheVariants.{Connection, Store}

-- a part, and then the next if there is one
infixl 10 ◌>>=◌
abbrev pub ◌>>=◌ : {A B : Type 0} → Option A → (A → Option B) → Option B
option >>= next = option_and_then next option

-- the name of these bytes
unfoldable pub visible_of : List ℕ → Option (List ℕ)
visible_of word = if is_visible_word word then Some word else None

-- the name that a word is; `-` is none on a connection
unfoldable pub name_of : Origin → List ℕ → Option (List ℕ)
name_of Connection word = if name_eq word (codes "-") then None else visible_of word
name_of Store word = visible_of word
