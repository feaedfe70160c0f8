-- A table: keys with values, in the order in which the keys were added.
use Rattle.std.specs.Prelude.{Bool, not, List, [], ◌∷◌, filter, Option, None, Some, if◌then◌else◌}
use Rattle.std.specs.List.{list_any}

module _ {K V : Type 0} (eq : K → K → Bool) where
  abbrev pub has_key : List (K × V) → K → Bool
  has_key entries key = list_any (λ entry. eq key entry.0) entries

  -- the value at a key
  abbrev pub value_at : List (K × V) → K → Option V
  value_at [] key = None
  value_at (entry ∷ entries) key = if eq key entry.0 then Some entry.1 else value_at entries key

  -- the table with another value at an existing key
  abbrev pub with_value : List (K × V) → K → V → List (K × V)
  with_value [] key value = []
  with_value (entry ∷ entries) key value =
      if eq key entry.0 then (entry.0, value) ∷ entries else entry ∷ with_value entries key value

  abbrev pub without_key : List (K × V) → K → List (K × V)
  without_key entries key = filter (λ entry. not (eq key entry.0)) entries

  -- the table with a value at a key: an existing key stays in its place, and a new one is added at
  -- the end
  abbrev pub insert_entry : List (K × V) → K → V → List (K × V)
  insert_entry [] key value = (key, value) ∷ []
  insert_entry (entry ∷ entries) key value =
      if eq key entry.0 then (entry.0, value) ∷ entries else entry ∷ insert_entry entries key value
