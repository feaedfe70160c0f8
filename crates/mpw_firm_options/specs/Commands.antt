-- Which command the words of a command line ask for.
use Rattle.std.specs.Prelude.{◌≡◌, ◌⊎◌, ◌||◌, ◌++◌, ℕ, Bool, List, codes, Option, Some, None, if◌then◌else◌}
use Rattle.std.specs.List.{list_any}
use Rattle.std.specs.String.{string_bytes}
use Rattle.mpw_geom.specs.Names.{name_eq}
use Rattle.mpw_firm_options.specs.declared.options.Asked.{Asked}
use Rattle.mpw_firm_options.specs.declared.options.Asked.TheVariants.{Check, Stitch, Told}
use Rattle.mpw_firm_options.specs.declared.options.Telling.{Telling}
use Rattle.mpw_firm_options.specs.declared.options.Telling.TheVariants.{Help, Version}

-- ---- a text in place of what a command does

-- One of the words is the option of that name or of that letter.
abbrev pub asks : {A : Type 0} → (A → List ℕ) → List A → (name letter : List ℕ) → Bool
asks text words name letter =
    list_any (λ word. name_eq (text word) name) words
    || list_any (λ word. name_eq (text word) letter) words

-- The help, or else the version, if a word asks for it.
abbrev pub telling_of : {A : Type 0} → (A → List ℕ) → List A → Option Telling
telling_of text words =
    if asks text words (codes "--help") (codes "-h") then Some Help
    else if asks text words (codes "--version") (codes "-V") then Some Version
    else None

unfoldable pub version_text : List ℕ → List ℕ
version_text command = command ++ codes " 0.9.0\n"

-- The version's text is this one; the help's is what the library of command lines makes of a command's form.
abbrev pub IsToldBy : List ℕ → Telling → List ℕ → Type 0
IsToldBy command Help text = Unit {0}
IsToldBy command Version text = text ≡ version_text command

abbrev pub IsTold : List ℕ → Option Telling → List ℕ → Type 0
IsTold command None text = ⊥
IsTold command (Some telling) text = IsToldBy command telling text

-- ---- the commands

-- A check if no text is asked for, and else that text.
abbrev pub IsOfCheck : Option Telling → Asked → Type 0
IsOfCheck telling (Check options) = telling ≡ None
IsOfCheck telling (Stitch options) = ⊥
IsOfCheck telling (Told text) = IsTold (codes "mpw check") telling (string_bytes text)

-- The same of parts to be stitched.
abbrev pub IsOfStitch : Option Telling → Asked → Type 0
IsOfStitch telling (Check options) = ⊥
IsOfStitch telling (Stitch options) = telling ≡ None
IsOfStitch telling (Told text) = IsTold (codes "mpw stitch") telling (string_bytes text)

-- By the word after the program's name.
abbrev pub IsOfWord : Option (List ℕ) → Option Telling → Asked → Type 0
IsOfWord word telling asked =
    ((word ≡ Some (codes "check")) × IsOfCheck telling asked)
    ⊎ ((word ≡ Some (codes "stitch")) × IsOfStitch telling asked)
