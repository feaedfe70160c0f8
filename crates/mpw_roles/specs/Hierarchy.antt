-- The role hierarchy (ANSI INCITS 359-2004, 6.2.1): the roles in the order in which they were added, each
-- with its immediate juniors in the order in which their pairs were added.
use Rattle.std.specs.Prelude.{ℕ, Bool, List, [], ◌∷◌, ◌++◌, map, if◌then◌else◌}
use Rattle.mpw_geom.specs.Names.{name_eq, contains_name, without_name}
use Rattle.mpw_geom.specs.Links.{Links, linked, is_linked, links_without}

abbrev pub Name : Type 0
Name = List ℕ

abbrev pub Hierarchy : Type 0
Hierarchy = Links

-- the greatest number of roles
abbrev pub max_roles : ℕ
max_roles = 512

-- the roles
abbrev pub role_names : Hierarchy → List Name
role_names hierarchy = map (λ entry. entry.0) hierarchy

abbrev pub is_role : Hierarchy → Name → Bool
is_role hierarchy role = contains_name (role_names hierarchy) role

-- the immediate juniors of a role; a name that is no role has none
abbrev pub immediate_juniors : Hierarchy → Name → List Name
immediate_juniors = linked

-- whether the two are an immediate pair
abbrev pub is_immediate : Hierarchy → Name → Name → Bool
is_immediate = is_linked

-- the hierarchy in which that role has these immediate juniors
abbrev pub with_juniors : Hierarchy → Name → List Name → Hierarchy
with_juniors [] role juniors = []
with_juniors (entry ∷ entries) role juniors =
    if name_eq role entry.0 then (entry.0, juniors) ∷ entries else entry
    ∷ with_juniors entries role juniors

-- the roles without one, with the pairs that start at them
abbrev pub entries_without : Hierarchy → Name → Hierarchy
entries_without = links_without

-- a new role is added at the end, without pairs
abbrev pub with_role : Hierarchy → Name → Hierarchy
with_role hierarchy role = hierarchy ++ (role, []) ∷ []

-- a role is removed with each pair that it is in
abbrev pub without_role : Hierarchy → Name → Hierarchy
without_role hierarchy role =
    map (λ entry. (entry.0, without_name entry.1 role)) (entries_without hierarchy role)

-- a new pair is added after the others of its senior
abbrev pub with_pair : Hierarchy → Name → Name → Hierarchy
with_pair hierarchy senior junior =
    with_juniors hierarchy senior (immediate_juniors hierarchy senior ++ junior ∷ [])

abbrev pub without_pair : Hierarchy → Name → Name → Hierarchy
without_pair hierarchy senior junior =
    with_juniors hierarchy senior (without_name (immediate_juniors hierarchy senior) junior)
