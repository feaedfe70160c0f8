-- Names that lead to others: roles to their immediate juniors, structures to those to which they refer.
use Rattle.std.specs.Prelude.{◌≡◌, ℕ, zero, suc, Bool, true, not, ◌||◌, List, [], ◌∷◌, length, filter, if◌then◌else◌}
use Rattle.std.specs.List.{list_any}
use Rattle.mpw_geom.specs.Names.{name_eq, contains_name}

-- names, each with those to which it leads directly
abbrev pub Links : Type 0
Links = List (List ℕ × List (List ℕ))

-- the names to which a name leads directly; one without an entry leads to none
abbrev pub linked : Links → List ℕ → List (List ℕ)
linked [] name = []
linked (entry ∷ entries) name = if name_eq name entry.0 then entry.1 else linked entries name

abbrev pub is_linked : Links → List ℕ → List ℕ → Bool
is_linked links from to = contains_name (linked links from) to

-- the links without those of one name
abbrev pub links_without : Links → List ℕ → Links
links_without links name = filter (λ entry. not (name_eq name entry.0)) links

-- the two names are equal, or a chain of links leads from the first to the second
pub data Leads (links : Links) : List ℕ → List ℕ → Type 0 where
  same : {name : List ℕ} → Leads links name name
  chain : {from middle to : List ℕ} → is_linked links from middle ≡ true → Leads links middle to
      → Leads links from to

-- the same as a test: a chain needs each name once, so the search can drop the links of the names that it has left
abbrev pub leads_in : ℕ → Links → List ℕ → List ℕ → Bool
leads_in zero links from to = name_eq from to
leads_in (suc n) links from to =
    name_eq from to || list_any (λ middle. leads_in n (links_without links from) middle to)
    (linked links from)

unfoldable pub leads : Links → List ℕ → List ℕ → Bool
leads links from to = leads_in (length links) links from to
