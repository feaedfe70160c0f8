-- For private functions and proofs: what references name inside and outside a library.
use Rattle.std.specs.Prelude.{ℕ, List, slice_get}
use Rattle.std.specs.List.{flat_map}
use Rattle.mpw_structures.specs.declared.structures.Structure.{Structure}
use Rattle.mpw_hier.specs.Structures.{target_names}
use Rattle.mpw_hier.specs.Outside.{names_outside}

-- The names outside the library to which the structures at these indices refer.
abbrev pub outside_from : List Structure → ℕ → List (List ℕ)
outside_from library place = names_outside library (target_names (slice_get library place))

unfoldable pub outside_from_all : List Structure → List ℕ → List (List ℕ)
outside_from_all library places = flat_map (outside_from library) places
