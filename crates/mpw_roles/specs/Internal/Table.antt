-- Definitions for private functions and proofs: the table of roles: names with numbers, the roles' numbers in
-- the order of the roles, and the immediate pairs by number in the order in which they were added.
use Rattle.std.specs.Prelude.{◌≡◌, ℕ, ◌<◌, Bool, true, not, ◌&&◌, ◌||◌, ◌==◌, List, [], ◌∷◌, length, map, filter, position, unwrap_or, slice_index_or}
use Rattle.std.specs.List.{list_any, list_all}
use Rattle.mpw_roles.specs.Hierarchy.{Name, Hierarchy}
use Rattle.mpw_roles.specs.Order.{are_distinct}
use Rattle.mpw_roles.specs.declared.pairs.Pair.{Pair}

-- the name with a number
abbrev pub name_of : List Name → ℕ → Name
name_of names number = slice_index_or names number []

-- the numbers of the immediate juniors of the role with a number
abbrev pub juniors_of : List Pair → ℕ → List ℕ
juniors_of pairs senior =
    map (λ (pair : Pair). pair.junior) (filter (λ (pair : Pair). senior == pair.senior) pairs)

-- the role with a number, with its immediate juniors
abbrev pub entry_of : List Name → List Pair → ℕ → Name × List Name
entry_of names pairs number = (name_of names number, map (name_of names) (juniors_of pairs number))

-- the roles with these numbers
abbrev pub entries_of : List Name → List Pair → List ℕ → Hierarchy
entries_of names pairs order = map (entry_of names pairs) order

-- whether the number is one of these
abbrev pub has_number : List ℕ → ℕ → Bool
has_number order number = list_any (λ other. number == other) order

-- whether each number occurs once
abbrev pub are_once : List ℕ → Bool
are_once [] = true
are_once (number ∷ numbers) = not (has_number numbers number) && are_once numbers

-- whether both roles of a pair exist
abbrev pub is_between : List ℕ → Pair → Bool
is_between order pair = has_number order pair.senior && has_number order pair.junior

-- whether the pair is that of two numbers
abbrev pub is_pair : ℕ → ℕ → Pair → Bool
is_pair senior junior pair = (senior == pair.senior) && (junior == pair.junior)

-- whether the role with the number is one of the pair's
abbrev pub is_end : ℕ → Pair → Bool
is_end number pair = (number == pair.senior) || (number == pair.junior)

-- the invariant of a table: each name and each number once, numbers of names, and pairs of its roles
pub record IsTable (names : List Name) (pairs : List Pair) (order : List ℕ) : Type 0 where
  pub names_once : are_distinct names ≡ true
  pub once : are_once order ≡ true
  pub known : (number : ℕ) → has_number order number ≡ true → number < length names
  pub between : list_all (is_between order) pairs ≡ true

-- the index of a number that is there
abbrev pub place_in : List ℕ → ℕ → ℕ
place_in order number = unwrap_or (position (λ other. number == other) order) 0

-- a pair by the indexes of its roles
abbrev pub placed_pair : List ℕ → Pair → Pair
placed_pair order pair =
    record { senior = place_in order pair.senior; junior = place_in order pair.junior }
