-- The tests of each decision table, and the policy after it if all pass; and the administrative tables as
-- one.
use Rattle.std.proofs.Common.{ℕ, Bool, true, false, not, ◌||◌, ◌&&◌, List, [], ◌∷◌, ◌++◌, length, filter, Result}
use Rattle.std.specs.Prelude.{nat_lt, is_none}
use Rattle.std.specs.List.{list_any, list_all}
use Rattle.mpw_geom.specs.Names.{name_eq, contains_name, without_name}
use Rattle.mpw_roles.specs.Decided.{decided}
use Rattle.mpw_roles.specs.Hierarchy.{Name, is_role, is_immediate, with_role, with_pair, without_pair}
use Rattle.mpw_roles.specs.Order.{at_least}
use Rattle.mpw_separation.specs.declared.set.Kind.{Kind}
use Rattle.mpw_separation.specs.declared.set.Kind.TheVariants.{Static, Dynamic}
use Rattle.mpw_separation.specs.Separation.{has_set, without_set, uses_role}
use Rattle.mpw_separation.specs.Set.{SeparationSet}
use Rattle.mpw_permissions.specs.Grant.{grant_eq}
use Rattle.mpw_rbac.specs.Policy.{Policy, authorized, assigned_roles, is_user, session_of, trim}
use Rattle.mpw_rbac.specs.Rows as rows
use Rattle.mpw_rbac.specs.Table.{without_key}
use Rattle.mpw_permissions.specs.declared.permission.Grant.{Grant}
use Rattle.mpw_rbac.specs.declared.refusal.Refusal.{Refusal}
use Rattle.mpw_rbac.specs.declared.refusal.Refusal.TheVariants.{Opened, Login, NotAuthorized, Unknown, Known, Full, Used, Loop}

abbrev pub opened : Policy → ℕ → Name → Policy
opened p connection user =
    record p { sessions = p.sessions ++ (connection, record { user = user; active = [] }) ∷ [] }

abbrev pub open-tests : Policy → ℕ → Name → List ℕ → List rows.Test
open-tests p connection user digest =
    (is_none (session_of p connection), Opened) ∷ (rows.is_login p user digest, Login) ∷ []

abbrev pub activated : Policy → ℕ → Name → Policy
activated p connection role =
    rows.with_active p connection (rows.active_roles p connection ++ role ∷ [])

abbrev pub activate-tests : Policy → ℕ → Name → List rows.Test
activate-tests p connection role =
    (contains_name (authorized p (rows.user_of p connection)) role, NotAuthorized role)
    ∷ (not (contains_name (rows.active_roles p connection) role), Known)
    ∷ rows.dsd_holds (activated p connection role) ∷ []

abbrev pub dropped : Policy → ℕ → Name → Policy
dropped p connection role =
    rows.with_active p connection (without_name (rows.active_roles p connection) role)

abbrev pub drop-tests : Policy → ℕ → Name → List rows.Test
drop-tests p connection role =
    (contains_name (rows.active_roles p connection) role, Unknown) ∷ []

abbrev pub user_added : Policy → Name → List ℕ → Policy
user_added p user digest =
    record p { users = p.users ++ (user, record { digest = digest; roles = [] }) ∷ [] }

abbrev pub adduser-tests : Policy → Name → List rows.Test
adduser-tests p user = (not (is_user p user), Known) ∷ (nat_lt (length p.users) 512, Full) ∷ []

abbrev pub user_deleted : Policy → Name → Policy
user_deleted p user = record p { users = without_key name_eq p.users user }

abbrev pub deluser-tests : Policy → Name → List rows.Test
deluser-tests p user = (is_user p user, Unknown) ∷ []

abbrev pub role_added : Policy → Name → Policy
role_added p role = record p { roles = with_role p.roles role }

abbrev pub addrole-tests : Policy → Name → List rows.Test
addrole-tests p role =
    (not (is_role p.roles role), Known) ∷ (nat_lt (length p.roles) 512, Full) ∷ []

abbrev pub delrole-tests : Policy → Name → List rows.Test
delrole-tests p role = (is_role p.roles role, Unknown)
    ∷ (not (uses_role p.ssd role || uses_role p.dsd role), Used) ∷ []

abbrev pub assigned : Policy → Name → Name → Policy
assigned p user role = rows.with_assigned p user (assigned_roles p user ++ role ∷ [])

abbrev pub assign-tests : Policy → Name → Name → List rows.Test
assign-tests p user role = (is_user p user && is_role p.roles role, Unknown)
    ∷ (not (contains_name (assigned_roles p user) role), Known)
    ∷ rows.ssd_holds (assigned p user role) ∷ []

abbrev pub deassigned : Policy → Name → Name → Policy
deassigned p user role = rows.with_assigned p user (without_name (assigned_roles p user) role)

abbrev pub deassign-tests : Policy → Name → Name → List rows.Test
deassign-tests p user role = (contains_name (assigned_roles p user) role, Unknown) ∷ []

abbrev pub grant_added : Policy → Grant → Policy
grant_added p new = record p { granted = p.granted ++ new ∷ [] }

abbrev pub grant-tests : Policy → Grant → List rows.Test
grant-tests p new = (is_role p.roles new.role, Unknown)
    ∷ (not (list_any (grant_eq new) p.granted), Known) ∷ (nat_lt (length p.granted) 4096, Full) ∷ []

abbrev pub grant_revoked : Policy → Grant → Policy
grant_revoked p old = record p { granted = filter (λ other. not (grant_eq old other)) p.granted }

abbrev pub revoke-tests : Policy → Grant → List rows.Test
revoke-tests p old = (list_any (grant_eq old) p.granted, Unknown) ∷ []

abbrev pub inherited : Policy → Name → Name → Policy
inherited p senior junior = record p { roles = with_pair p.roles senior junior }

abbrev pub inherit-tests : Policy → Name → Name → List rows.Test
inherit-tests p senior junior =
    (is_role p.roles senior && is_role p.roles junior, Unknown)
    ∷ (not (is_immediate p.roles senior junior), Known)
    ∷ (not (at_least p.roles junior senior), Loop)
    ∷ rows.ssd_holds (inherited p senior junior)
    ∷ rows.dsd_holds (inherited p senior junior)
    ∷ []

abbrev pub uninherited : Policy → Name → Name → Policy
uninherited p senior junior = record p { roles = without_pair p.roles senior junior }

abbrev pub uninherit-tests : Policy → Name → Name → List rows.Test
uninherit-tests p senior junior = (is_immediate p.roles senior junior, Unknown) ∷ []

abbrev pub ssd_made : Policy → SeparationSet → Policy
ssd_made p set = record p { ssd = p.ssd ++ set ∷ [] }

abbrev pub ssd-tests : Policy → SeparationSet → List rows.Test
ssd-tests p set = (not (has_set p.ssd set.name), Known)
    ∷ (list_all (is_role p.roles) set.roles, Unknown) ∷ rows.ssd_holds (ssd_made p set)
    ∷ (nat_lt (length p.ssd) 64, Full) ∷ []

abbrev pub dsd_made : Policy → SeparationSet → Policy
dsd_made p set = record p { dsd = p.dsd ++ set ∷ [] }

abbrev pub dsd-tests : Policy → SeparationSet → List rows.Test
dsd-tests p set = (not (has_set p.dsd set.name), Known)
    ∷ (list_all (is_role p.roles) set.roles, Unknown) ∷ rows.dsd_holds (dsd_made p set)
    ∷ (nat_lt (length p.dsd) 64, Full) ∷ []

abbrev pub ssd_removed : Policy → Name → Policy
ssd_removed p name = record p { ssd = without_set p.ssd name }

abbrev pub unssd-tests : Policy → Name → List rows.Test
unssd-tests p name = (has_set p.ssd name, Unknown) ∷ []

abbrev pub dsd_removed : Policy → Name → Policy
dsd_removed p name = record p { dsd = without_set p.dsd name }

abbrev pub undsd-tests : Policy → Name → List rows.Test
undsd-tests p name = (has_set p.dsd name, Unknown) ∷ []

-- the administrative requests
pub data Administration : Type 0 where
  AddUser : Name → List ℕ → Administration
  DeleteUser : Name → Administration
  AddRole : Name → Administration
  DeleteRole : Name → Administration
  Assign : Name → Name → Administration
  Deassign : Name → Name → Administration
  AddGrant : Grant → Administration
  Revoke : Grant → Administration
  Inherit : Name → Name → Administration
  Uninherit : Name → Name → Administration
  MakeStatic : SeparationSet → Administration
  MakeDynamic : SeparationSet → Administration
  RemoveStatic : Name → Administration
  RemoveDynamic : Name → Administration

-- the tests of each
abbrev pub tests-of : Administration → Policy → List rows.Test
tests-of (AddUser user digest) p = adduser-tests p user
tests-of (DeleteUser user) p = deluser-tests p user
tests-of (AddRole role) p = addrole-tests p role
tests-of (DeleteRole role) p = delrole-tests p role
tests-of (Assign user role) p = assign-tests p user role
tests-of (Deassign user role) p = deassign-tests p user role
tests-of (AddGrant new) p = grant-tests p new
tests-of (Revoke old) p = revoke-tests p old
tests-of (Inherit senior junior) p = inherit-tests p senior junior
tests-of (Uninherit senior junior) p = uninherit-tests p senior junior
tests-of (MakeStatic set) p = ssd-tests p set
tests-of (MakeDynamic set) p = dsd-tests p set
tests-of (RemoveStatic name) p = unssd-tests p name
tests-of (RemoveDynamic name) p = undsd-tests p name

abbrev pub next-of : Administration → Policy → Policy
next-of (AddUser user digest) p = user_added p user digest
next-of (DeleteUser user) p = trim (user_deleted p user)
next-of (AddRole role) p = role_added p role
next-of (DeleteRole role) p = trim (rows.without_role_of p role)
next-of (Assign user role) p = assigned p user role
next-of (Deassign user role) p = trim (deassigned p user role)
next-of (AddGrant new) p = grant_added p new
next-of (Revoke old) p = grant_revoked p old
next-of (Inherit senior junior) p = inherited p senior junior
next-of (Uninherit senior junior) p = trim (uninherited p senior junior)
next-of (MakeStatic set) p = ssd_made p set
next-of (MakeDynamic set) p = dsd_made p set
next-of (RemoveStatic name) p = ssd_removed p name
next-of (RemoveDynamic name) p = dsd_removed p name

abbrev pub row-of : Administration → Policy → Result Policy Refusal
row-of request p = decided (tests-of request p) (next-of request p)

-- whether it tests the sets of a kind
abbrev pub tests_kind : Kind → Administration → Bool
tests_kind Static (Assign user role) = true
tests_kind Static (MakeStatic set) = true
tests_kind Dynamic (MakeDynamic set) = true
tests_kind kind (Inherit senior junior) = true
tests_kind kind request = false
