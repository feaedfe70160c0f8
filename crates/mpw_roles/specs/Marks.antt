-- Marks of the roles: a list of tests, with one at the index of each role.
use Rattle.std.specs.Prelude.{Bool, List, [], ◌∷◌, if◌then◌else◌}
use Rattle.mpw_roles.specs.Hierarchy.{Name, Hierarchy}

abbrev pub Marks : Type 0
Marks = List Bool

-- the marked roles
abbrev pub marked_names : Hierarchy → Marks → List Name
marked_names [] marks = []
marked_names (entry ∷ entries) [] = []
marked_names (entry ∷ entries) (mark ∷ marks) =
    if mark then entry.0 ∷ marked_names entries marks else marked_names entries marks
