-- Separation of duty (ANSI INCITS 359-2004, 6.3 and 6.4): a set of roles of which nobody may have as many as its
-- cardinality.
use Rattle.std.specs.Prelude.{ℕ, Bool, not, List, nat_le, count_by, map, filter, Option}
use Rattle.std.specs.List.{list_any}
use Rattle.mpw_geom.specs.Names.{name_eq, contains_name}
use Rattle.mpw_roles.specs.Hierarchy.{Name, Hierarchy}
use Rattle.mpw_roles.specs.Order.{roles_below}
use Rattle.mpw_separation.specs.declared.set.Kind.{Kind}
use Rattle.mpw_separation.specs.declared.set.Kind.TheVariants.{Static, Dynamic}
use Rattle.mpw_separation.specs.Set.{SeparationSet}
use Rattle.mpw_geom.specs.Least.{least_name}

-- the sets of both kinds, each in the order in which they were made
pub record Sets : Type 0 where
  pub ssd : List SeparationSet
  pub dsd : List SeparationSet

-- the greatest number of sets of a kind
abbrev pub max_sets : ℕ
max_sets = 64

abbrev pub sets_of : Kind → Sets → List SeparationSet
sets_of Static sets = sets.ssd
sets_of Dynamic sets = sets.dsd

-- whether as many roles of the set as its cardinality are among these
abbrev pub is_reached : List Name → SeparationSet → Bool
is_reached roles set = nat_le set.cardinality (count_by (contains_name roles) set.roles)

-- whether as many roles of the set as its cardinality are at or below one of the seniors
abbrev pub breaks : Hierarchy → List Name → SeparationSet → Bool
breaks hierarchy seniors set = is_reached (roles_below hierarchy seniors) set

-- whether one of these lists of seniors breaks the set
abbrev pub is_broken : Hierarchy → List (List Name) → SeparationSet → Bool
is_broken hierarchy holders set = list_any (λ seniors. breaks hierarchy seniors set) holders

abbrev pub set_names : List SeparationSet → List Name
set_names sets = map (λ set. set.name) sets

-- the names of the sets that one of these lists of seniors breaks
abbrev pub broken_names : Hierarchy → List SeparationSet → List (List Name) → List Name
broken_names hierarchy sets holders = set_names (filter (is_broken hierarchy holders) sets)

-- the first of them in alphabetical order
abbrev pub least_broken : Hierarchy → List SeparationSet → List (List Name) → Option Name
least_broken hierarchy sets holders = least_name (broken_names hierarchy sets holders)

-- whether one of the sets has the name
abbrev pub has_set : List SeparationSet → Name → Bool
has_set sets name = list_any (λ set. name_eq name set.name) sets

abbrev pub without_set : List SeparationSet → Name → List SeparationSet
without_set sets name = filter (λ set. not (name_eq name set.name)) sets

-- whether the role is in the set
abbrev pub has_role : Name → SeparationSet → Bool
has_role role set = contains_name set.roles role

-- whether one of the sets has the role
abbrev pub uses_role : List SeparationSet → Name → Bool
uses_role sets role = list_any (has_role role) sets
