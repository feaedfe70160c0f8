-- Roles, and the grants to them.
use Rattle.std.specs.Prelude.{◌≡◌, ◌⊎◌, List, [], ◌∷◌, ◌++◌}
use Rattle.mpw_roles.specs.Hierarchy.{Name, Hierarchy}
use Rattle.mpw_permissions.specs.declared.permission.Grant.{Grant}

-- the roles, and the grants to them
pub record Permissions : Type 0 where
  pub roles : Hierarchy
  pub granted : List Grant

-- the same names in their order, and perhaps one more at the end
abbrev pub AreMoreNames : List Name → List Name → Type 0
AreMoreNames old new = (new ≡ old) ⊎ ((name : Name) × (new ≡ old ++ name ∷ []))
