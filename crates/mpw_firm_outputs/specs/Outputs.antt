-- Texts in their places: what was put there, and which file a name leads to.
use Rattle.std.specs.Prelude.{◌≡◌, ◌==◌, ◌&&◌, ⊤, ℕ, Bool, true, false, List, [], ◌∷◌, ◌++◌, not, Option, None, Some, IfSome}
use Rattle.std.specs.List.{list_any}
use Rattle.mpw_geom.specs.Names.{name_eq}
use Rattle.mpw_firm_messages.specs.declared.fault.FirmFault.{FirmFault}
use Rattle.mpw_firm_messages.specs.declared.fault.FirmFault.TheVariants.{Memory}
use Rattle.mpw_firm_outputs.specs.declared.texts.WriteFault.{WriteFault}
use Rattle.mpw_firm_outputs.specs.declared.texts.WriteFault.TheVariants as write
use Rattle.mpw_firm_messages.specs.Told.{Fails, OutputFails, output_text, reason_text, unwritten_text, CannotBeWritten}

-- ---- what was put

-- A text in its place: a file's by its name, or the standard output's.
pub record Kept : Type 0 where
  pub place : Option (List ℕ)
  pub text : List ℕ

abbrev pub on_output : List ℕ → Kept
on_output text = record { place = None; text = text }

abbrev pub in_file : (name text : List ℕ) → Kept
in_file name text = record { place = Some name; text = text }

-- Texts that are known have further ones after them.
abbrev pub Grows : Option (List Kept) → Option (List Kept) → List Kept → Type 0
Grows None new more = ⊤
Grows (Some xs) None more = ⊥
Grows (Some xs) (Some ys) more = ys ≡ xs ++ more

-- The same of one text, if it is known.
abbrev pub Puts : Option (List Kept) → Option (List Kept) → Option (List ℕ) → Option (List ℕ)
    → Type 0
Puts None new place text = ⊤
Puts (Some xs) new place None = ⊤
Puts (Some xs) new place (Some text) =
    Grows (Some xs) new (record { place = place; text = text } ∷ [])

-- A text isn't put into that place, which is reported; or memory runs out.
abbrev pub IsUnput : Option (List ℕ) → FirmFault → Type 0
IsUnput None fault = OutputFails fault
IsUnput (Some file) fault = CannotBeWritten file fault

-- The file that is wanted can't be written, if one is.
abbrev pub IsUnwritten : Option (List ℕ) → FirmFault → Type 0
IsUnwritten None fault = ⊥
IsUnwritten (Some file) fault = CannotBeWritten file fault

-- The same with why: no space is left, or else its device failed.
abbrev pub IsUntaken : Option (List ℕ) → (full : Bool) → FirmFault → Type 0
IsUntaken None full fault = Fails (output_text full) fault
IsUntaken (Some file) full fault = Fails (unwritten_text file (reason_text full)) fault

-- By what came of writing: out of memory as such, and each other fault as that of the place.
abbrev pub IsOfWrite : Option (List ℕ) → WriteFault → (full : Bool) → FirmFault → Type 0
IsOfWrite place write.Memory full fault = fault ≡ Memory
IsOfWrite place write.Device full fault = IsUntaken place full fault

-- ---- which file a name leads to

-- A file that is there, by its device and its node, and without a name; or one that isn't, by its folder's and by its name there.
pub record Spot : Type 0 where
  pub device : ℕ
  pub node : ℕ
  pub name : List ℕ

abbrev pub same_spot : Spot → Spot → Bool
same_spot a b = (a.device == b.device) && (a.node == b.node) && name_eq a.name b.name

-- Names lead to one file.
abbrev pub are_one : Option Spot → Option Spot → Bool
are_one None other = false
are_one (Some spot) None = false
are_one (Some spot) (Some other) = same_spot spot other

abbrev pub is_among : (List ℕ → Option Spot) → List (List ℕ) → List ℕ → Bool
is_among leads names name = list_any (λ other. are_one (leads other) (leads name)) names

-- No output is one of the inputs, or an output before it.
abbrev pub are_apart : (List ℕ → Option Spot) → (inputs outputs : List (List ℕ)) → Bool
are_apart leads inputs [] = true
are_apart leads inputs (name ∷ names) =
    not (is_among leads inputs name) && are_apart leads (inputs ++ (name ∷ [])) names

-- The same, if it is known which files the names lead to.
abbrev pub AreApart : Option (List ℕ → Option Spot) → (inputs outputs : List (List ℕ)) → Type 0
AreApart files inputs outputs = IfSome files (λ leads. are_apart leads inputs outputs ≡ true)
