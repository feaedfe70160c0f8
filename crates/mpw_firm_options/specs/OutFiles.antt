-- Files that options name to be written.
use Rattle.std.specs.Prelude.{◌≡◌, ◌≢◌, ◌⊎◌, ◌++◌, codes, ℕ, List, true, Option, Some, None}
use Rattle.std.specs.List.{list_any}
use Rattle.mpw_geom.specs.Names.{name_eq}
use Rattle.mpw_firm_messages.specs.declared.fault.FirmFault.{FirmFault}
use Rattle.mpw_firm_messages.specs.declared.fault.FirmFault.TheVariants.{Memory}
use Rattle.mpw_firm_messages.specs.Told.{Misuses}

unfoldable pub no_file_text : List ℕ → List ℕ
no_file_text option =
    codes "error: --" ++ (option ++ codes " takes a file, and not the standard output")

unfoldable pub written_over_text : (option over : List ℕ) → List ℕ
written_over_text option over =
    codes "error: the " ++ (option ++ (codes " can't be written over " ++ over))

-- The file that is given is the standard output; or it is one of those that are read, which are given as `over`; or memory runs out.
abbrev pub IsOfOut : {A : Type 0} → (A → List ℕ) → (option over : List ℕ) → List A → Option (List ℕ)
    → FirmFault → Type 0
IsOfOut text option over others None fault = ⊥
IsOfOut text option over others (Some file) fault =
    (fault ≡ Memory)
    ⊎ ((file ≡ codes "-") × Misuses (no_file_text option) fault)
    ⊎ ((file ≢ codes "-")
    × (list_any (λ word. name_eq (text word) file) others ≡ true)
    × Misuses (written_over_text option over) fault)
