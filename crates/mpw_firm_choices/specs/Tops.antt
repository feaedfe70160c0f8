-- The structures of a library that nothing places, by the names in its records, without those in texts and nodes.
use Rattle.std.specs.Prelude.{ℕ, ◌*◌, ◌^◌, Bool, not, nat_lt, List, [], ◌∷◌, length, filter, Option, None, Some, Result, Ok, Err, if◌then◌else◌}
use Rattle.std.specs.List.{list_any}
use Rattle.mpw_elements.specs.Values.{name_of}
use Rattle.mpw_geom.specs.Names.{name_eq}
use Rattle.mpw_records.specs.declared.fault.ReadFault.{ReadFault}
use Rattle.mpw_records.specs.declared.kind.TheConstants.{SNAME, STRNAME}
use Rattle.mpw_firm_skipping.specs.Names.{names_of}

-- A name is one of those that are placed.
abbrev pub is_placed : {P : Type 0} → (P → List ℕ) → List P → List ℕ → Bool
is_placed text placed name = list_any (λ p. name_eq (text p) name) placed

abbrev pub unplaced : {N P : Type 0} → (N → List ℕ) → (P → List ℕ) → List N → List P → List N
unplaced name text names placed = filter (λ n. not (is_placed text placed (name n))) names

-- The name that a record's data is.
abbrev pub read : Result (List ℕ) ReadFault → Option (List ℕ)
read (Ok name) = Some name
read (Err fault) = None

abbrev pub name_in : List ℕ → Option (List ℕ)
name_in bytes =
    read (name_of (record { offset = 0; kind = STRNAME; data_type = 6; bytes = bytes }))

-- The only one of these.
abbrev pub only_of : {N : Type 0} → (N → List ℕ) → List N → Option (List ℕ)
only_of name [] = None
only_of name (n ∷ []) = name_in (name n)
only_of name (n ∷ m ∷ rest) = None

-- The names that nothing places; none if there are too many names.
abbrev pub unplaced_in : (names placed : List (List ℕ)) → List (List ℕ)
unplaced_in names placed =
    if nat_lt (2 ^ 28) (length names * length placed) then []
    else unplaced (λ n. n) (λ p. p) names placed

abbrev pub unplaced_of : List ℕ → List (List ℕ)
unplaced_of text = unplaced_in (names_of STRNAME text) (names_of SNAME text)

-- The only structure that nothing places, unless the names are too many.
abbrev pub only_in : (names placed : List (List ℕ)) → Option (List ℕ)
only_in names placed =
    if nat_lt (2 ^ 28) (length names * length placed) then None
    else only_of (λ n. n) (unplaced (λ n. n) (λ p. p) names placed)

abbrev pub only_top : List ℕ → Option (List ℕ)
only_top text = only_in (names_of STRNAME text) (names_of SNAME text)
