-- The least of some names, by their bytes.
use Rattle.std.specs.Prelude.{◌≡◌, ℕ, true, false, List, [], ◌∷◌, Option, None, Some, if◌then◌else◌}
use Rattle.std.specs.Ordering.{is_lt}
use Rattle.mpw_geom.specs.Names.{name_cmp, contains_name, by_name}

-- The first name of a list
abbrev pub first_name : List (List ℕ) → Option (List ℕ)
first_name [] = None
first_name (name ∷ names) = Some name

-- The first in the order of names
abbrev pub least_name : List (List ℕ) → Option (List ℕ)
least_name names = first_name (by_name names)

-- The lesser of two names; if only one is there, that one
abbrev pub lesser : Option (List ℕ) → Option (List ℕ) → Option (List ℕ)
lesser None second = second
lesser (Some one) None = Some one
lesser (Some one) (Some other) = if is_lt (name_cmp other one) then Some other else Some one

-- The name is one of the list, and none of the list is less; only an empty list has no least name
abbrev pub IsLeast : List (List ℕ) → Option (List ℕ) → Type 0
IsLeast names None = (name : List ℕ) → contains_name names name ≡ false
IsLeast names (Some least) =
    (contains_name names least ≡ true) × ((name : List ℕ) → contains_name names name ≡ true
    → is_lt (name_cmp name least) ≡ false)
