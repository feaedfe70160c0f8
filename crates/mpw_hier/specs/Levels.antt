-- Values of structures, each of which follows from those of the structure's targets.
use Rattle.std.specs.Prelude.{ℕ, zero, suc, List, length, Option, Some, None}
use Rattle.mpw_structures.specs.declared.structures.Structure.{Structure}
use Rattle.mpw_hier.specs.Structures.{structure_of}

-- The value of a structure, or of a name outside the library.
abbrev pub at_structure : {V : Type 0} → (Structure → V) → V → Option Structure → V
at_structure shown outside None = outside
at_structure shown outside (Some s) = shown s

-- The value of the structure with a name, computed down to `levels` levels. `shown` computes that of a structure from those of its targets,
-- `outside` gives that of a name outside the library, and `nothing` is used below the last level.
unfoldable pub by_levels : {V : Type 0} → (Structure → (List ℕ → V) → V) → V → (List ℕ → V)
    → (levels : ℕ) → List Structure → List ℕ → V
by_levels shown nothing outside zero library name = nothing
by_levels shown nothing outside (suc levels) library name =
    at_structure (λ s. shown s (λ target. by_levels shown nothing outside levels library target))
    (outside name) (structure_of library name)

-- Without a cycle there are at most as many levels as structures, and one for the names outside. With a cycle, the computation
-- ends at the last level and its result means nothing.
abbrev pub levels_of : List Structure → ℕ
levels_of library = suc (length library)
