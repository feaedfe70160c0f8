-- The masks of users, sessions and sets: the indexes of the roles that each user is authorized for, of those
-- that act in each session, and of each set's own roles.
use Rattle.std.specs.Prelude.{◌≡◌, ℕ, ◌<◌, List, length, map, slice_index_or, []}
use Rattle.mpw_roles.specs.Hierarchy.{Name, Hierarchy, role_names}
use Rattle.mpw_roles.specs.Places.{mask_at}
use Rattle.mpw_roles.specs.declared.mask.Mask.{Mask}
use Rattle.mpw_separation.specs.Placed.{KeptSets, AreSetsPlaced}
pub use Rattle.mpw_separation.specs.Placed.{IsBelow}
use Rattle.mpw_rbac.specs.declared.active.Active.{Active}
use Rattle.mpw_permissions.specs.declared.permission.Grant.{Grant}
use Rattle.mpw_rbac.specs.declared.session.Session.{Session}
use Rattle.mpw_rbac.specs.declared.session.User.{User}
use Rattle.mpw_rbac.specs.Policy.{policy_of, assigned_lists, active_lists}
use Rattle.mpw_rbac.specs.Sound.{Sound}

-- users, and a mask for each at the same index
pub record KeptUsers : Type 0 where
  pub users : List (Name × User)
  pub masks : List Mask

-- sessions, and a mask for each at the same index
pub record KeptSessions : Type 0 where
  pub sessions : List (ℕ × Session)
  pub masks : List Mask

abbrev pub sessions_in : List (ℕ × Active) → List (ℕ × Session)
sessions_in entries = map (λ (entry : ℕ × Active). (entry.0, entry.1.session)) entries

abbrev pub masks_in : List (ℕ × Active) → List Mask
masks_in entries = map (λ (entry : ℕ × Active). entry.1.acting) entries

-- the mask at the index of each list of seniors is that list's
pub record AreBelow (hierarchy : Hierarchy) (lists : List (List Name)) (masks : List Mask) :
    Type 0 where
  pub long : length masks ≡ length lists
  pub exact : (k : ℕ) → k < length lists
      → IsBelow hierarchy (slice_index_or lists k []) (mask_at masks k)

abbrev pub AreAuthorized : Hierarchy → KeptUsers → Type 0
AreAuthorized hierarchy kept = AreBelow hierarchy (assigned_lists kept.users) kept.masks

abbrev pub AreActing : Hierarchy → KeptSessions → Type 0
AreActing hierarchy kept = AreBelow hierarchy (active_lists kept.sessions) kept.masks

-- these users, with their masks
pub record AreUsers (hierarchy : Hierarchy) (table : List (Name × User)) (kept : KeptUsers) :
    Type 0 where
  pub same : kept.users ≡ table
  pub masks : AreAuthorized hierarchy kept

-- what every policy preserves: it is sound, and each mask of its users, its sets and its sessions is right
pub record IsPolicy (users : KeptUsers) (roles : Hierarchy) (granted : List Grant) (sets : KeptSets)
    (sessions : KeptSessions) : Type 0 where
  pub sound : Sound (policy_of users.users roles granted sets.sets sessions.sessions)
  pub authorized : AreAuthorized roles users
  pub acting : AreActing roles sessions
  pub placed : AreSetsPlaced (role_names roles) sets
