-- What a top reaches, as computed tests and lists.
use Rattle.std.specs.Prelude.{◌≡◌, ◌↔◌, ℕ, Bool, true, false, not, ◌&&◌, List, map, filter, Option, None, Some}
use Rattle.std.specs.List.{list_any, flat_map}
use Rattle.mpw_geom.specs.Names.{contains_name, by_name}
use Rattle.mpw_geom.specs.Links.{Links, linked, leads}
use Rattle.mpw_geom.specs.declared.plane.Box2.{Box2}
use Rattle.mpw_structures.specs.declared.structures.Structure.{Structure}
use Rattle.mpw_structures.specs.Places.{place_of}
use Rattle.mpw_hier.specs.declared.submission.Submission.{Submission}
use Rattle.mpw_hier.specs.Structures.{referenced_names, IsCyclic, IsOutside}
use Rattle.mpw_hier.specs.Outside.{names_outside, AreExternals}
use Rattle.mpw_hier.specs.Boxes.{extent_of, is_box_near}
use Rattle.mpw_hier.specs.Values.{structure_items, flats}
use Rattle.mpw_hier.specs.Limits.{IsFar}

-- Each structure's name with the names to which it refers.
abbrev pub links_of : List Structure → Links
links_of library = map (λ s. (s.name, referenced_names s.elements)) library

-- References lead from the first name to the second, or they are equal.
abbrev pub reaches : List Structure → List ℕ → List ℕ → Bool
reaches library from to = leads (links_of library) from to

-- References lead from the name back to it.
abbrev pub leads_back : List Structure → List ℕ → Bool
leads_back library name =
    list_any (λ next. reaches library next name) (linked (links_of library) name)

-- A structure that the top reaches leads back to itself.
unfoldable pub is_cyclic : List Structure → List ℕ → Bool
is_cyclic library top =
    list_any (λ s. reaches library top s.name && leads_back library s.name) library

-- The names outside the library that the top reaches, in alphabetical (byte) order, each once.
unfoldable pub external_names : List Structure → List ℕ → List (List ℕ)
external_names library top =
    by_name (filter (reaches library top)
    (names_outside library (flat_map (λ s. referenced_names s.elements) library)))

abbrev pub is_beyond : Option Box2 → Bool
is_beyond None = false
is_beyond (Some box) = not (is_box_near box)

-- The extent of a structure that the top reaches exceeds 2^30 nm in its own coordinates.
unfoldable pub is_far : List Submission → Submission → Bool
is_far ss s =
    list_any (λ t. reaches s.library s.top t.name
    && is_beyond (extent_of (structure_items (flats ss) s t.name))) s.library

-- Each test is true exactly if the relation of its name holds.
abbrev pub CyclesAreFound : Type 0
CyclesAreFound = (library : List Structure) (top : List ℕ) → (is_cyclic library top ≡ true)
    ↔ IsCyclic library top

abbrev pub NamesOutsideAreFound : Type 0
NamesOutsideAreFound =
    (library : List Structure) (top : List ℕ) (place : ℕ) → place_of library top ≡ Some place
    → (name : List ℕ) → (contains_name (external_names library top) name ≡ true)
    ↔ IsOutside library top name

abbrev pub ExternalsAreOne : Type 0
ExternalsAreOne = (library : List Structure) (top : List ℕ) (names : List (List ℕ))
    → AreExternals library top names → names ≡ external_names library top

abbrev pub FarExtentsAreFound : Type 0
FarExtentsAreFound = (ss : List Submission) (s : Submission) → (is_far ss s ≡ true) ↔ IsFar ss s
