-- The order of roles (ANSI INCITS 359-2004, 6.2.1): the reflexive and transitive closure of the immediate pairs.
use Rattle.std.specs.Prelude.{◌≡◌, ◌≤◌, Bool, true, false, not, ◌&&◌, List, [], ◌∷◌, length, filter}
use Rattle.std.specs.List.{list_any}
use Rattle.mpw_geom.specs.Names.{contains_name}
use Rattle.mpw_geom.specs.Links.{Leads, leads}
use Rattle.mpw_roles.specs.Hierarchy.{Name, Hierarchy, max_roles, role_names, is_role, immediate_juniors, is_immediate}

-- the senior is the junior, or a chain of immediate pairs leads from it down to the junior
abbrev pub IsAtLeast : Hierarchy → Name → Name → Type 0
IsAtLeast hierarchy senior junior = Leads hierarchy senior junior

-- the same, as a test
abbrev pub at_least : Hierarchy → Name → Name → Bool
at_least = leads

-- whether the role is at or below one of the seniors
abbrev pub is_below : Hierarchy → List Name → Name → Bool
is_below hierarchy seniors role = list_any (λ senior. at_least hierarchy senior role) seniors

-- the roles at or below one of the seniors, in the order of the roles
abbrev pub roles_below : Hierarchy → List Name → List Name
roles_below hierarchy seniors = filter (is_below hierarchy seniors) (role_names hierarchy)

-- whether each name occurs once
abbrev pub are_distinct : List Name → Bool
are_distinct [] = true
are_distinct (name ∷ names) = not (contains_name names name) && are_distinct names

-- the invariant of a hierarchy: at most `max_roles` roles, each once; pairs of roles, each once; and no chain
-- from a junior of a pair up to its senior, so that the order is a partial order
pub record IsHierarchy (hierarchy : Hierarchy) : Type 0 where
  pub small : length hierarchy ≤ max_roles
  pub roles_once : are_distinct (role_names hierarchy) ≡ true
  pub pairs_once : (senior : Name) → are_distinct (immediate_juniors hierarchy senior) ≡ true
  pub pairs_of_roles : (senior junior : Name) → is_immediate hierarchy senior junior ≡ true
      → is_role hierarchy junior ≡ true
  pub acyclic : (senior junior : Name) → is_immediate hierarchy senior junior ≡ true
      → at_least hierarchy junior senior ≡ false
