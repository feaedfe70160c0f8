-- Definitions for private functions and proofs: marks of the roles, a list of tests with one at the index of
-- each role.
use Rattle.std.specs.Prelude.{Bool, false, [], ◌∷◌, if◌then◌else◌}
use Rattle.mpw_geom.specs.Names.{name_eq}
use Rattle.mpw_roles.specs.Hierarchy.{Name, Hierarchy}
use Rattle.mpw_roles.specs.Marks.{Marks}

-- whether the role is marked
abbrev pub is_marked : Hierarchy → Marks → Name → Bool
is_marked [] marks role = false
is_marked (entry ∷ entries) [] role = false
is_marked (entry ∷ entries) (mark ∷ marks) role =
    if name_eq role entry.0 then mark else is_marked entries marks role
