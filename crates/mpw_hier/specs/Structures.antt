-- The structures of a library, and which of them refer to which (GDSII Stream release 6, SREF and AREF).
use Rattle.std.specs.Prelude.{◌≡◌, ℕ, Bool, true, false, List, [], ◌∷◌, map, filter, slice_get, Option, Some, None}
use Rattle.mpw_geom.specs.Names.{contains_name}
use Rattle.mpw_structures.specs.declared.element.Element.{Element}
use Rattle.mpw_structures.specs.declared.element.Element.TheVariants as elements
use Rattle.mpw_structures.specs.declared.element.Reference.{Reference}
use Rattle.mpw_structures.specs.declared.structures.Structure.{Structure}
use Rattle.mpw_structures.specs.Places.{place_of}

-- The structure of that name, if the library has one.
abbrev pub structure_at : List Structure → Option ℕ → Option Structure
structure_at library None = None
structure_at library (Some place) = slice_get library place

abbrev pub structure_of : List Structure → List ℕ → Option Structure
structure_of library name = structure_at library (place_of library name)

-- The elements that place structures, in file order; and those that are shapes.
abbrev pub references : List Element → List Reference
references [] = []
references (elements.Boundary b ∷ es) = references es
references (elements.Path p ∷ es) = references es
references (elements.Reference r ∷ es) = r ∷ references es

abbrev pub is_shape : Element → Bool
is_shape (elements.Boundary b) = true
is_shape (elements.Path p) = true
is_shape (elements.Reference r) = false

abbrev pub shapes : List Element → List Element
shapes es = filter is_shape es

-- The names of references; and those to which a structure refers. A name that is no structure of the library refers to none.
abbrev pub referenced_names : List Element → List (List ℕ)
referenced_names es = map (λ r. r.name) (references es)

abbrev pub target_names : Option Structure → List (List ℕ)
target_names None = []
target_names (Some s) = referenced_names s.elements

abbrev pub refers : List Structure → List ℕ → List ℕ → Bool
refers library from to = contains_name (target_names (structure_of library from)) to

-- A chain of references leads from one name to another, or they are equal.
pub data IsReachable (library : List Structure) : List ℕ → List ℕ → Type 0 where
  itself : {name : List ℕ} → IsReachable library name name
  chain : {from middle to : List ℕ} → refers library from middle ≡ true
      → IsReachable library middle to → IsReachable library from to

-- The top, or a structure that it reaches, refers to a name from which references lead back to it.
pub record IsCyclic (library : List Structure) (top : List ℕ) : Type 0 where
  pub structure : List ℕ
  pub next : List ℕ
  pub below : IsReachable library top structure
  pub reference : refers library structure next ≡ true
  pub back : IsReachable library next structure

-- A name that the top reaches and that is no structure of the library.
pub record IsOutside (library : List Structure) (top name : List ℕ) : Type 0 where
  pub below : IsReachable library top name
  pub missing : structure_of library name ≡ None
