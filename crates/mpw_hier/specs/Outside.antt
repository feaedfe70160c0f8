-- What references name inside a library and outside it.
use Rattle.std.specs.Prelude.{◌≡◌, ℕ, List, [], ◌∷◌, map, Option, Some, None, true, ◌↔◌}
use Rattle.mpw_geom.specs.Names.{by_name, contains_name}
use Rattle.mpw_structures.specs.declared.structures.Structure.{Structure}
use Rattle.mpw_structures.specs.Places.{place_of}
use Rattle.mpw_hier.specs.declared.fault.HierFault.{HierFault}
use Rattle.mpw_hier.specs.declared.fault.HierFault.TheVariants as faults
use Rattle.mpw_hier.specs.Structures.{referenced_names, IsCyclic, IsOutside}

abbrev pub known_before : Option ℕ → List ℕ → List ℕ
known_before None places = places
known_before (Some place) places = place ∷ places

-- The indices of the library's structures with these names.
unfoldable pub places_of : List Structure → List (List ℕ) → List ℕ
places_of library [] = []
places_of library (name ∷ names) = known_before (place_of library name) (places_of library names)

abbrev pub unknown_before : Option ℕ → List ℕ → List (List ℕ) → List (List ℕ)
unknown_before None name names = name ∷ names
unknown_before (Some place) name names = names

-- The names that are no structure of the library.
unfoldable pub names_outside : List Structure → List (List ℕ) → List (List ℕ)
names_outside library [] = []
names_outside library (name ∷ names) =
    unknown_before (place_of library name) name (names_outside library names)

-- For each structure, the indices of the structures to which it refers.
abbrev pub places_from : List Structure → Structure → List ℕ
places_from library s = places_of library (referenced_names s.elements)

unfoldable pub graph_of : List Structure → List (List ℕ)
graph_of library = map (places_from library) library

-- In alphabetical (byte) order, each once.
pub record IsByName (names : List (List ℕ)) : Type 0 where
  pub given : List (List ℕ)
  pub same : names ≡ by_name given

-- The top is a structure of the library without a cycle below it, and these are the names outside the library that it reaches.
pub record AreExternals (library : List Structure) (top : List ℕ) (names : List (List ℕ)) :
    Type 0 where
  pub place : ℕ
  pub found : place_of library top ≡ Some place
  pub acyclic : IsCyclic library top → ⊥
  pub by_name : IsByName names
  pub outside : (name : List ℕ) → (contains_name names name ≡ true) ↔ IsOutside library top name

-- Why the names outside a library can't be listed: out of memory, no top, or a cycle.
abbrev pub IsOfExternals : List Structure → List ℕ → HierFault → Type 0
IsOfExternals library top faults.Memory = Unit {0}
IsOfExternals library top faults.NoTop = place_of library top ≡ None
IsOfExternals library top faults.Cycle = IsCyclic library top
IsOfExternals library top faults.NoCell = ⊥
IsOfExternals library top faults.Extent = ⊥
IsOfExternals library top faults.Shapes = ⊥
IsOfExternals library top faults.Deep = ⊥
IsOfExternals library top faults.Full = ⊥
