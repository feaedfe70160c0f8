-- Laws of parts.
use Rattle.std.specs.Prelude.{◌≡◌, ℕ, List, Some}
use Rattle.mpw_firm_parts.specs.Parts.{Found, IsPart}
use Rattle.mpw_firm_parts.specs.Text.{part_text}
use Rattle.mpw_firm_parts.specs.Reading.{part_of}

-- The text of a part is read as that part.
abbrev pub PartsAreReadBack : Type 0
PartsAreReadBack = (part : Found) → IsPart part → part_of (part_text part) ≡ Some part

-- A text that is read as a part is the text of that part, byte for byte.
abbrev pub OnlyPartsAreRead : Type 0
OnlyPartsAreRead =
    (text : List ℕ) (part : Found) → part_of text ≡ Some part → text ≡ part_text part
