-- Lists of names.
use Rattle.std.specs.Prelude.{ℕ, Bool, not, List, [], ◌∷◌, nat_eq, filter, map}
use Rattle.std.specs.List.{list_any}
use Rattle.std.specs.Ordering.{nat_cmp}
use Rattle.std.specs.declared.cmp.Ordering.{Ordering}
use Rattle.std.specs.Cmp.Lexicographic.{pointwise, slice_cmp}
use Rattle.std.specs.FinMap.Entries.{put}

-- whether two names have the same bytes
abbrev pub name_eq : List ℕ → List ℕ → Bool
name_eq = pointwise nat_eq

-- names in alphabetical (byte) order
abbrev pub name_cmp : List ℕ → List ℕ → Ordering
name_cmp = slice_cmp nat_cmp

-- whether the name is in the list
abbrev pub contains_name : List (List ℕ) → List ℕ → Bool
contains_name names name = list_any (name_eq name) names

-- the list without that name
abbrev pub without_name : List (List ℕ) → List ℕ → List (List ℕ)
without_name names name = filter (λ other. not (name_eq name other)) names

-- each name as an entry of the ordered map, once
abbrev pub placed_by_name : List (List ℕ) → List (List ℕ × Unit {0})
placed_by_name [] = []
placed_by_name (name ∷ names) = put name_cmp name tt (placed_by_name names)

-- the names of the list in alphabetical (byte) order, each once
abbrev pub by_name : List (List ℕ) → List (List ℕ)
by_name names = map (λ entry. entry.0) (placed_by_name names)
