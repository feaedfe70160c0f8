-- Definitions for private functions and proofs: a policy that has only users and roles, and how it trims a
-- session.
use Rattle.std.specs.Prelude.{◌≡◌, Bool, List, []}
use Rattle.mpw_roles.specs.Hierarchy.{Name, Hierarchy}
use Rattle.mpw_rbac.specs.Masked.{IsBelow, KeptUsers, AreAuthorized}
use Rattle.mpw_rbac.specs.declared.active.Active.{Active}
use Rattle.mpw_rbac.specs.declared.session.User.{User}
use Rattle.mpw_rbac.specs.Policy.{Policy, is_user, kept_roles}

-- the policy of these users and roles, and of nothing else
abbrev pub users_and_roles : List (Name × User) → Hierarchy → Policy
users_and_roles users roles =
    record { users = users; roles = roles; granted = []; ssd = []; dsd = []; sessions = [] }

-- of the session's active roles those stay that its user is authorized for, and its mask is that of its roles; the
-- result is whether the user exists
abbrev pub IsTrimmed : Hierarchy → KeptUsers → Active → Active → Bool → Type 0
IsTrimmed hierarchy kept old new there =
    (there ≡ is_user (users_and_roles kept.users hierarchy) old.session.user)
    × (AreAuthorized hierarchy kept
    → new.session ≡ kept_roles (users_and_roles kept.users hierarchy) old.session)
    × IsBelow hierarchy new.session.active new.acting
