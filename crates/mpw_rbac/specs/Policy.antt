-- The policy (ANSI INCITS 359-2004, core RBAC with a general role hierarchy and separation of duty).
use Rattle.std.specs.Prelude.{ℕ, Bool, false, ◌&&◌, ◌==◌, List, [], ◌∷◌, map, filter, Option, codes}
use Rattle.std.specs.List.{list_any}
use Rattle.std.specs.Option.{option_map_or}
use Rattle.mpw_geom.specs.Names.{name_eq, contains_name, by_name}
use Rattle.mpw_roles.specs.Hierarchy.{Name, Hierarchy}
use Rattle.mpw_roles.specs.Order.{roles_below}
use Rattle.mpw_permissions.specs.declared.permission.Operation.{Operation}
use Rattle.mpw_permissions.specs.declared.permission.Operation.TheVariants.{Admin}
use Rattle.mpw_permissions.specs.declared.permission.Object.{Object}
use Rattle.mpw_permissions.specs.declared.permission.Object.TheVariants.{Desk}
use Rattle.mpw_permissions.specs.declared.permission.Grant.{Grant}
use Rattle.mpw_rbac.specs.declared.session.User.{User}
use Rattle.mpw_rbac.specs.declared.session.Session.{Session}
use Rattle.mpw_rbac.specs.declared.session.Identity.{Identity}
use Rattle.mpw_permissions.specs.Grant.{is_granted_to}
use Rattle.mpw_separation.specs.Separation.{Sets}
use Rattle.mpw_separation.specs.Set.{SeparationSet}
use Rattle.mpw_rbac.specs.Table.{value_at, has_key}

-- Users with their digests and assigned roles (USERS, UA), roles with their immediate juniors (ROLES, RH), grants (PA),
-- the sets of separation, and sessions by connection; each in the order in which it was added.
pub record Policy : Type 0 where
  pub users : List (Name × User)
  pub roles : Hierarchy
  pub granted : List Grant
  pub ssd : List SeparationSet
  pub dsd : List SeparationSet
  pub sessions : List (ℕ × Session)

-- the greatest numbers of users and of grants
abbrev pub max_users : ℕ
max_users = 512

abbrev pub max_grants : ℕ
max_grants = 4096

-- the policy of these tables
abbrev pub policy_of : List (Name × User) → Hierarchy → List Grant → Sets → List (ℕ × Session)
    → Policy
policy_of users roles granted sets sessions =
    record {
      users = users;
      roles = roles;
      granted = granted;
      ssd = sets.ssd;
      dsd = sets.dsd;
      sessions = sessions;
    }

abbrev pub is_user : Policy → Name → Bool
is_user policy user = has_key name_eq policy.users user

-- the roles assigned to a user
abbrev pub assigned_roles : Policy → Name → List Name
assigned_roles policy user =
    option_map_or (λ (u : User). u.roles) (value_at name_eq policy.users user) []

-- the roles that a user is authorized for: those at or below an assigned one (AuthorizedRoles)
abbrev pub authorized : Policy → Name → List Name
authorized policy user = roles_below policy.roles (assigned_roles policy user)

-- the session of a connection
abbrev pub session_of : Policy → ℕ → Option Session
session_of policy connection = value_at (λ a b. a == b) policy.sessions connection

-- the roles that act in a session: those at or below an active one (profile: an active role acts with its juniors)
abbrev pub acting : Policy → Session → List Name
acting policy session = roles_below policy.roles session.active

-- whether some acting role of the session has a grant of the operation on the object (CheckAccess)
abbrev pub session_permits : Policy → Session → Operation → Object → Bool
session_permits policy session operation object =
    list_any (is_granted_to (acting policy session) operation object) policy.granted

-- An acting role of the connection's session has a grant of the operation on the object.
abbrev pub permits : Policy → ℕ → Operation → Object → Bool
permits policy connection operation object =
    option_map_or (λ (session : Session). session_permits policy session operation object)
    (session_of policy connection) false

-- a session with those of its active roles that its user is authorized for
abbrev pub kept_roles : Policy → Session → Session
kept_roles policy session = record session
    { active = filter (contains_name (authorized policy session.user)) session.active }

-- in each session those active roles stay that its user is authorized for, and a deleted user's sessions end
abbrev pub kept_sessions : Policy → List (ℕ × Session) → List (ℕ × Session)
kept_sessions policy sessions = map (λ entry. (entry.0, kept_roles policy entry.1))
    (filter (λ (entry : ℕ × Session). is_user policy entry.1.user) sessions)

abbrev pub trim : Policy → Policy
trim policy = record policy { sessions = kept_sessions policy policy.sessions }

-- the roles assigned to each user
abbrev pub assigned_lists : List (Name × User) → List (List Name)
assigned_lists users = map (λ entry. entry.1.roles) users

-- the roles that are active in each session
abbrev pub active_lists : List (ℕ × Session) → List (List Name)
active_lists sessions = map (λ entry. entry.1.active) sessions

-- what `whoami` shows: the user, and the active and the authorized roles, each in alphabetical order
abbrev pub identity_of : Policy → Session → Identity
identity_of policy session = record {
  user = session.user;
  active = by_name session.active;
  authorized = by_name (authorized policy session.user);
}

-- the policy of a new desk: the officer, with the role `officer`, which may administer the desk
abbrev pub new_policy : Name → List ℕ → Policy
new_policy officer digest = record {
  users = (officer, record { digest = digest; roles = codes "officer" ∷ [] }) ∷ [];
  roles = (codes "officer", []) ∷ [];
  granted = record { operation = Admin; object = Desk; role = codes "officer" } ∷ [];
  ssd = [];
  dsd = [];
  sessions = [];
}
