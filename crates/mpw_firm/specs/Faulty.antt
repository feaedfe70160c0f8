-- The report of a library that is refused: the faults of its elements.
use Rattle.std.specs.Prelude.{◌≡◌, ◌⊎◌, ◌-◌, ◌^◌, ℕ, List, [], ◌∷◌, Option, None, Some, option_map}
use Rattle.std.specs.String.{string_bytes}
use Rattle.mpw_firm_options.specs.declared.options.Options.{Options}
use Rattle.mpw_firm_choices.specs.Tops.{only_top}
use Rattle.mpw_deck.specs.declared.rule.Rule.{Rule}
use Rattle.mpw_firm_outputs.specs.Outputs.{Kept, Grows, IsUnwritten, in_file}
use Rattle.mpw_firm_report.specs.Content.{Content, Told, unchecked}
use Rattle.mpw_firm_report.specs.Report.{full_text}
use Rattle.mpw_firm_sources.specs.Seen.{told_faults}
use Rattle.mpw_firm_sources.specs.Sources.{Source, kept_text}
use Rattle.mpw_firm_messages.specs.declared.fault.FirmFault.{FirmFault}
use Rattle.mpw_firm_messages.specs.declared.fault.FirmFault.TheVariants.{Memory}

-- The structure in whose coordinates faults are reported: the one that is named, or the only one that nothing places.
abbrev pub top_for : Option (List ℕ) → List ℕ → Option (List ℕ)
top_for (Some name) text = Some name
top_for None text = only_top text

-- The report has no markers, says that nothing is checked, and has these faults.
abbrev pub faulty_content : (file top : List ℕ) → List Rule → List Told → Content
faulty_content file top rules faults = record {
  original = Some file;
  top = top;
  rules = rules;
  markers = [];
  counts = None;
  limit = 2 ^ 64 - 1;
  notes = unchecked ∷ [];
  faults = faults;
}

-- It is written if there are faults.
abbrev pub some_texts : (out file top : List ℕ) → List Rule → List Told → List Kept
some_texts out file top rules [] = []
some_texts out file top rules (fault ∷ faults) =
    in_file out (full_text (faulty_content file top rules (fault ∷ faults))) ∷ []

abbrev pub top_texts : (out file : List ℕ) → Option (List ℕ) → List Rule → Source → List Kept
top_texts out file None rules source = []
top_texts out file (Some top) rules source =
    some_texts out file top rules (told_faults source top)

abbrev pub wanted_texts : Option (List ℕ) → (file : List ℕ) → Option (List ℕ) → List Rule → Source
    → List Kept
wanted_texts None file top rules source = []
wanted_texts (Some out) file top rules source = top_texts out file top rules source

-- Of a library that is refused, if a report is wanted and there is such a structure.
abbrev pub faulty_texts : Options → List Rule → Source → Option (List ℕ) → List Kept
faulty_texts options rules source top =
    wanted_texts (option_map string_bytes options.report) (string_bytes options.file) top rules
    source

-- The report can't be written, if one is wanted; or memory runs out.
abbrev pub IsUnfaulty : Options → FirmFault → Type 0
IsUnfaulty options fault =
    (fault ≡ Memory) ⊎ IsUnwritten (option_map string_bytes options.report) fault

-- What is printed about the whole is the library's fault, and the report is written; or that it can't be.
abbrev pub IsToldFaulty : Options → List Rule → Source → Option (List Kept) → Option (List Kept)
    → (fault told : FirmFault) → Type 0
IsToldFaulty options rules source old new fault told =
    ((told ≡ fault)
    × Grows old new
    (faulty_texts options rules source (top_for options.top (kept_text source))))
    ⊎ IsUnfaulty options told
