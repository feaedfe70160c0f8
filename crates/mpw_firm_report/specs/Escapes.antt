-- The text of a name in a report: as the text of an XML element, and between quotes in the path that names a category.
use Rattle.std.specs.Prelude.{◌≢◌, ℕ, ◌==◌, ◌||◌, List, [], ◌∷◌, ◌++◌, codes, if◌then◌else◌}
use Rattle.std.specs.List.{flat_map}

-- a byte as XML's text: an entity for <, > and &
unfoldable pub character : ℕ → List ℕ
character byte =
    if byte == 0x3C then codes "&lt;"
    else if byte == 0x3E then codes "&gt;"
    else if byte == 0x26 then codes "&amp;"
    else byte ∷ []

-- a byte of a category's name in its path: a quote and a backslash get a backslash before them
unfoldable pub path_character : ℕ → List ℕ
path_character byte = if byte == 0x27 || byte == 0x5C then 0x5C ∷ byte ∷ [] else character byte

-- a name as the text of an element
abbrev pub escaped : List ℕ → List ℕ
escaped name = flat_map character name

-- a category's path, as the text of an element: its name between quotes
abbrev pub path_text : List ℕ → List ℕ
path_text name = 0x27 ∷ flat_map path_character name ++ 0x27 ∷ []

-- ---- what a reader of XML gets

-- The text of an element represents these bytes: each of <, > and & is an entity, and each other byte is itself.
pub data StandsFor : List ℕ → List ℕ → Type 0 where
  nothing : StandsFor [] []
  less : (rest bytes : List ℕ) → StandsFor rest bytes
      → StandsFor (codes "&lt;" ++ rest) (0x3C ∷ bytes)
  greater : (rest bytes : List ℕ) → StandsFor rest bytes
      → StandsFor (codes "&gt;" ++ rest) (0x3E ∷ bytes)
  ampersand : (rest bytes : List ℕ) → StandsFor rest bytes
      → StandsFor (codes "&amp;" ++ rest) (0x26 ∷ bytes)
  itself : (byte : ℕ) (rest bytes : List ℕ) → byte ≢ 0x3C → byte ≢ 0x3E → byte ≢ 0x26
      → StandsFor rest bytes → StandsFor (byte ∷ rest) (byte ∷ bytes)

-- The bytes of a path between its quotes, from which this name is read: a byte after a backslash is itself, and so is each other
-- byte except a quote, which ends the path.
pub data IsPath : List ℕ → List ℕ → Type 0 where
  ended : IsPath (0x27 ∷ []) []
  marked : (byte : ℕ) (rest name : List ℕ) → IsPath rest name
      → IsPath (0x5C ∷ byte ∷ rest) (byte ∷ name)
  plain : (byte : ℕ) (rest name : List ℕ) → byte ≢ 0x27 → byte ≢ 0x5C → IsPath rest name
      → IsPath (byte ∷ rest) (byte ∷ name)

-- A name's text represents the name, and a path's text represents a path from which the name is read.
abbrev pub AreEscaped : Type 0
AreEscaped = (name : List ℕ) → StandsFor (escaped name) name
    × ((path : List ℕ) × StandsFor (path_text name) (0x27 ∷ path) × IsPath path name)
