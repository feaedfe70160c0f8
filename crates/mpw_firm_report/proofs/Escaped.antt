-- A reader gets the name from its text.
use Rattle.std.proofs.Common.{◌≡◌, ◌≢◌, ℕ, List, [], ◌∷◌, ◌++◌, inl, inr, sym, subst, append_assoc, rules}
use Rattle.std.specs.List.{flat_map}
use Rattle.std.proofs.lemmas.Bool.{cases_eq}
use Rattle.std.proofs.lemmas.Bool.Decides.{nat_tests}
use Rattle.mpw_firm_report.specs.Escapes.{character, path_character, escaped, path_text, StandsFor, IsPath}

-- the tests of a byte that is none of <, > and &
plain_character : (byte : ℕ) → byte ≢ 0x3C → byte ≢ 0x3E → byte ≢ 0x26 → character byte ≡ byte ∷ []
unfolding character
plain_character byte less greater and = search (rules, nat_tests, less, greater, and)

-- a byte's text, and then the text of the bytes after it
pub byte_stands : (byte : ℕ) (rest bytes : List ℕ) → StandsFor rest bytes
    → StandsFor (character byte ++ rest) (byte ∷ bytes)
unfolding character
byte_stands byte rest bytes h =
    elim (cases_eq byte 0x3C) [
      | inl is ↦ rw is (StandsFor.less rest bytes h)
      | inr less ↦ elim (cases_eq byte 0x3E) [
        | inl is ↦ rw is (StandsFor.greater rest bytes h)
        | inr greater ↦ elim (cases_eq byte 0x26) [
          | inl is ↦ rw is (StandsFor.ampersand rest bytes h)
          | inr and ↦ rw (plain_character byte less greater and)
              (StandsFor.itself byte rest bytes less greater and h)
        ]
      ]
    ]

-- a name's text
pub name_stands : (name : List ℕ) → StandsFor (escaped name) name
name_stands [] = StandsFor.nothing
name_stands (byte ∷ name) = byte_stands byte (escaped name) name (name_stands name)

-- the text of a name in a path, with the quote that ends it
abbrev ended_text : List ℕ → List ℕ
ended_text name = flat_map path_character name ++ 0x27 ∷ []

-- the end of a path is the text of one from which the name is read
abbrev IsRead : List ℕ → List ℕ → Type 0
IsRead text name = (path : List ℕ) × StandsFor text path × IsPath path name

-- a byte after a backslash
marked_byte : (byte : ℕ) (text name : List ℕ) → byte ≢ 0x3C → byte ≢ 0x3E → byte ≢ 0x26
    → IsRead text name → IsRead (0x5C ∷ byte ∷ text) (byte ∷ name)
marked_byte byte text name less greater and (path, stands, is) = (
  0x5C ∷ byte ∷ path,
  StandsFor.itself 0x5C (byte ∷ text) (byte ∷ path) (search rules) (search rules) (search rules)
      (StandsFor.itself byte text path less greater and stands),
  IsPath.marked byte path name is,
)

-- a byte that is itself in a path
plain_byte : (byte : ℕ) (text name : List ℕ) → byte ≢ 0x27 → byte ≢ 0x5C → IsRead text name
    → IsRead (character byte ++ text) (byte ∷ name)
plain_byte byte text name quote backslash (path, stands, is) =
    (byte ∷ path, byte_stands byte text path stands, IsPath.plain byte path name quote backslash is)

plain_path : (byte : ℕ) → byte ≢ 0x27 → byte ≢ 0x5C → path_character byte ≡ character byte
unfolding path_character
plain_path byte quote backslash = search (rules, nat_tests, quote, backslash)

-- a byte of a path, and then the path after it
byte_is_read : (byte : ℕ) (text name : List ℕ) → IsRead text name
    → IsRead (path_character byte ++ text) (byte ∷ name)
unfolding path_character
byte_is_read byte text name h =
    elim (cases_eq byte 0x27) [
      | inl is ↦ rw is (marked_byte 0x27 text name (search rules) (search rules) (search rules) h)
      | inr quote ↦ elim (cases_eq byte 0x5C) [
        | inl is ↦ rw is (marked_byte 0x5C text name (search rules) (search rules) (search rules) h)
        | inr backslash ↦ rw (plain_path byte quote backslash)
            (plain_byte byte text name quote backslash h)
      ]
    ]

-- a path after its first quote
pub path_is_read : (name : List ℕ) → IsRead (ended_text name) name
path_is_read [] = (
  0x27 ∷ [],
  StandsFor.itself 0x27 [] [] (search rules) (search rules)
      (search rules) StandsFor.nothing,
  IsPath.ended,
)
path_is_read (byte ∷ name) =
    subst (λ text. IsRead text (byte ∷ name))
    (sym (append_assoc (path_character byte) (flat_map path_character name) (0x27 ∷ [])))
    (byte_is_read byte (ended_text name) name (path_is_read name))

-- with it
pub path_stands : (name : List ℕ) → (path : List ℕ) × StandsFor (path_text name) (0x27 ∷ path)
    × IsPath path name
path_stands name =
    let read = path_is_read name in (
      read.0,
      StandsFor.itself 0x27 (ended_text name) read.0 (search rules) (search rules)
          (search rules) read.1,
      read.2,
    )
