-- The index of the structure with a name.
use Rattle.std.specs.Prelude.{◌≡◌, ℕ, ◌+◌, List, [], ◌∷◌, nat_eq, Option, Some, None, if◌then◌else◌}
use Rattle.std.specs.BTreeMap as tree
use Rattle.std.specs.BTreeMap.{BTreeMap}
use Rattle.std.specs.Cmp.Lexicographic.{slice_cmp, pointwise}
use Rattle.std.specs.Ordering.{nat_cmp}
use Rattle.mpw_structures.specs.declared.structures.Structure.{Structure}

-- The first index, counted from a number on, of a structure with that name.
abbrev pub place_from : ℕ → List Structure → List ℕ → Option ℕ
place_from i [] name = None
place_from i (s ∷ ss) name =
    if pointwise nat_eq s.name name then Some i else place_from (i + 1) ss name

-- The index of the structure with a name, if there is one.
abbrev pub place_of : List Structure → List ℕ → Option ℕ
place_of ss name = place_from 0 ss name

-- The indices in a map are those of the structures.
pub record AreIndexed (places : BTreeMap (List ℕ) ℕ) (ss : List Structure) : Type 0 where
  pub at : (name : List ℕ) → tree.get (slice_cmp nat_cmp) places name ≡ place_of ss name
