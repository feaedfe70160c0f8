-- The requests of the policy: each with its tests in order, and the policy after it if all pass. The guard of the desk tests before
-- them what a request needs: a session, or the permission `admin` on the desk.
use Rattle.std.specs.Prelude.{◌≡◌, ℕ, Bool, true, false, not, ◌&&◌, ◌||◌, ◌==◌, List, [], ◌∷◌, ◌++◌, length, map, filter, nat_lt, Result, Err, is_none, Option, None, Some}
use Rattle.std.specs.List.{list_any, list_all}
use Rattle.std.specs.Option.{option_map_or}
use Rattle.std.specs.Cmp.Lexicographic.{pointwise}
use Rattle.std.specs.Prelude.{nat_eq}
use Rattle.mpw_geom.specs.Names.{name_eq, contains_name, without_name}
use Rattle.mpw_roles.specs.Decided.{decided}
use Rattle.mpw_roles.specs.Hierarchy.{Name, max_roles, is_role, is_immediate, with_role, without_role, with_pair, without_pair}
use Rattle.mpw_roles.specs.Order.{at_least}
use Rattle.mpw_permissions.specs.declared.permission.Grant.{Grant}
use Rattle.mpw_rbac.specs.declared.session.User.{User}
use Rattle.mpw_rbac.specs.declared.session.Session.{Session}
use Rattle.mpw_rbac.specs.declared.refusal.Refusal.{Refusal}
use Rattle.mpw_rbac.specs.declared.refusal.Refusal.TheVariants.{Opened, Login, NotAuthorized, Ssd, Dsd, Unknown, Known, Full, Used, Loop}
use Rattle.mpw_permissions.specs.Grant.{grant_eq, ungranted}
use Rattle.mpw_rbac.specs.declared.session.Identity.{Identity}
use Rattle.mpw_rbac.specs.declared.refusal.PolicyFault.{PolicyFault}
use Rattle.mpw_rbac.specs.declared.refusal.PolicyFault.TheVariants.{Refused, Memory}
use Rattle.mpw_rbac.specs.Policy.{Policy, max_users, max_grants, identity_of, is_user, assigned_roles, authorized, session_of, trim, assigned_lists, active_lists}
use Rattle.mpw_separation.specs.Set.{SeparationSet}
use Rattle.mpw_separation.specs.Separation.{max_sets, least_broken, has_set, without_set, uses_role}
use Rattle.mpw_rbac.specs.Table.{value_at, with_value, without_key}

abbrev pub Test : Type 0
Test = Bool × Refusal

-- a fault is out of memory, or the refusal of the decision table
abbrev pub IsFaultOf : {A : Type 0} → Result A Refusal → PolicyFault → Type 0
IsFaultOf row (Refused refusal) = row ≡ Err refusal
IsFaultOf row Memory = Unit {0}

-- no set is broken; else the refusal names the first broken one in alphabetical order
abbrev pub none_broken : (Name → Refusal) → Option Name → Test
none_broken told None = (true, told [])
none_broken told (Some name) = (false, told name)

-- the static sets hold for the authorized roles of every user
abbrev pub ssd_holds : Policy → Test
ssd_holds policy =
    none_broken Ssd (least_broken policy.roles policy.ssd (assigned_lists policy.users))

-- the dynamic sets hold for the acting roles of every session
abbrev pub dsd_holds : Policy → Test
dsd_holds policy =
    none_broken Dsd (least_broken policy.roles policy.dsd (active_lists policy.sessions))

-- whether the user exists and has this digest
abbrev pub is_login : Policy → Name → List ℕ → Bool
is_login policy user digest = option_map_or (λ (u : User). pointwise nat_eq u.digest digest)
    (value_at name_eq policy.users user) false

-- create_session, without active roles
abbrev pub open_session : Policy → ℕ → Name → List ℕ → Result Policy Refusal
open_session policy connection user digest =
    decided
    ((is_none (session_of policy connection), Opened) ∷ (is_login policy user digest, Login) ∷ [])
    (record policy {
      sessions = policy.sessions ++ (connection, record { user = user; active = [] })
          ∷ [];
    })

-- the connection's session ends, if it has one
abbrev pub end_session : Policy → ℕ → Policy
end_session policy connection =
    record policy { sessions = without_key (λ a b. a == b) policy.sessions connection }

-- every session ends
abbrev pub end_sessions : Policy → Policy
end_sessions policy = record policy { sessions = [] }

-- the user of a connection's session, and its active roles; none of them if it has no session
abbrev pub user_of : Policy → ℕ → Name
user_of policy connection =
    option_map_or (λ (s : Session). s.user) (session_of policy connection) []

abbrev pub active_roles : Policy → ℕ → List Name
active_roles policy connection =
    option_map_or (λ (s : Session). s.active) (session_of policy connection) []

-- the policy in which the session has these active roles
abbrev pub with_active : Policy → ℕ → List Name → Policy
with_active policy connection active =
    record policy {
      sessions = with_value (λ a b. a == b) policy.sessions connection
          (record { user = user_of policy connection; active = active });
    }

-- add_active_role
abbrev pub activate : Policy → ℕ → Name → Result Policy Refusal
activate policy connection role =
    let next = with_active policy connection (active_roles policy connection ++ role ∷ []) in
    decided
    ((contains_name (authorized policy (user_of policy connection)) role, NotAuthorized role)
    ∷ (not (contains_name (active_roles policy connection) role), Known)
    ∷ dsd_holds next
    ∷ [])
    next

-- drop_active_role
abbrev pub drop_role : Policy → ℕ → Name → Result Policy Refusal
drop_role policy connection role =
    decided
    ((contains_name (active_roles policy connection) role, Unknown) ∷ [])
    (with_active policy connection (without_name (active_roles policy connection) role))

-- what `whoami` shows of the session
abbrev pub whoami : Policy → ℕ → Identity
whoami policy connection =
    identity_of policy (record {
      user = user_of policy connection;
      active = active_roles policy connection;
    })

-- add_user, without assigned roles
abbrev pub adduser : Policy → Name → List ℕ → Result Policy Refusal
adduser policy user digest =
    decided
    ((not (is_user policy user), Known)
    ∷ (nat_lt (length policy.users) max_users, Full)
    ∷ [])
    (record policy { users = policy.users ++ (user, record { digest = digest; roles = [] }) ∷ [] })

-- delete_user: the user's sessions end
abbrev pub deluser : Policy → Name → Result Policy Refusal
deluser policy user =
    decided
    ((is_user policy user, Unknown) ∷ [])
    (trim (record policy { users = without_key name_eq policy.users user }))

-- add_role
abbrev pub addrole : Policy → Name → Result Policy Refusal
addrole policy role =
    decided
    ((not (is_role policy.roles role), Known)
    ∷ (nat_lt (length policy.roles) max_roles, Full)
    ∷ [])
    (record policy { roles = with_role policy.roles role })

-- the users without the assignments of a role, and the grants without those to it
abbrev pub unassigned : List (Name × User) → Name → List (Name × User)
unassigned users role = map (λ (entry : Name × User).
    (entry.0, record entry.1 { roles = without_name entry.1.roles role })) users

-- a role is removed with its assignments, its grants and each pair that it is in
abbrev pub without_role_of : Policy → Name → Policy
without_role_of policy role = record policy {
  users = unassigned policy.users role;
  roles = without_role policy.roles role;
  granted = ungranted policy.granted role;
}

-- delete_role: a role that is in a set stays
abbrev pub delrole : Policy → Name → Result Policy Refusal
delrole policy role =
    decided
    ((is_role policy.roles role, Unknown)
    ∷ (not (uses_role policy.ssd role || uses_role policy.dsd role), Used)
    ∷ [])
    (trim (without_role_of policy role))

-- the digest of a user
abbrev pub digest_of_user : Policy → Name → List ℕ
digest_of_user policy user =
    option_map_or (λ (u : User). u.digest) (value_at name_eq policy.users user) []

-- the policy in which a user has these assigned roles
abbrev pub with_assigned : Policy → Name → List Name → Policy
with_assigned policy user roles =
    record policy {
      users = with_value name_eq policy.users user
          (record { digest = digest_of_user policy user; roles = roles });
    }

-- assign_user
abbrev pub assign : Policy → Name → Name → Result Policy Refusal
assign policy user role =
    let next = with_assigned policy user (assigned_roles policy user ++ role ∷ []) in
    decided
    ((is_user policy user && is_role policy.roles role, Unknown)
    ∷ (not (contains_name (assigned_roles policy user) role), Known)
    ∷ ssd_holds next
    ∷ [])
    next

-- deassign_user
abbrev pub deassign : Policy → Name → Name → Result Policy Refusal
deassign policy user role =
    decided
    ((contains_name (assigned_roles policy user) role, Unknown) ∷ [])
    (trim (with_assigned policy user (without_name (assigned_roles policy user) role)))

-- grant_permission
abbrev pub grant : Policy → Grant → Result Policy Refusal
grant policy new =
    decided
    ((is_role policy.roles new.role, Unknown)
    ∷ (not (list_any (grant_eq new) policy.granted), Known)
    ∷ (nat_lt (length policy.granted) max_grants, Full)
    ∷ [])
    (record policy { granted = policy.granted ++ new ∷ [] })

-- revoke_permission
abbrev pub revoke : Policy → Grant → Result Policy Refusal
revoke policy old =
    decided
    ((list_any (grant_eq old) policy.granted, Unknown) ∷ [])
    (record policy { granted = filter (λ other. not (grant_eq old other)) policy.granted })

-- add_inheritance
abbrev pub inherit : Policy → Name → Name → Result Policy Refusal
inherit policy senior junior =
    let next = record policy { roles = with_pair policy.roles senior junior } in
    decided
    ((is_role policy.roles senior && is_role policy.roles junior, Unknown)
    ∷ (not (is_immediate policy.roles senior junior), Known)
    ∷ (not (at_least policy.roles junior senior), Loop)
    ∷ ssd_holds next
    ∷ dsd_holds next
    ∷ [])
    next

-- delete_inheritance
abbrev pub uninherit : Policy → Name → Name → Result Policy Refusal
uninherit policy senior junior =
    decided
    ((is_immediate policy.roles senior junior, Unknown) ∷ [])
    (trim (record policy { roles = without_pair policy.roles senior junior }))

-- create_ssd_set
abbrev pub ssd : Policy → SeparationSet → Result Policy Refusal
ssd policy set =
    let next = record policy { ssd = policy.ssd ++ set ∷ [] } in
    decided
    ((not (has_set policy.ssd set.name), Known)
    ∷ (list_all (is_role policy.roles) set.roles, Unknown)
    ∷ ssd_holds next
    ∷ (nat_lt (length policy.ssd) max_sets, Full)
    ∷ [])
    next

-- create_dsd_set
abbrev pub dsd : Policy → SeparationSet → Result Policy Refusal
dsd policy set =
    let next = record policy { dsd = policy.dsd ++ set ∷ [] } in
    decided
    ((not (has_set policy.dsd set.name), Known)
    ∷ (list_all (is_role policy.roles) set.roles, Unknown)
    ∷ dsd_holds next
    ∷ (nat_lt (length policy.dsd) max_sets, Full)
    ∷ [])
    next

-- delete_ssd_set
abbrev pub unssd : Policy → Name → Result Policy Refusal
unssd policy name =
    decided
    ((has_set policy.ssd name, Unknown) ∷ [])
    (record policy { ssd = without_set policy.ssd name })

-- delete_dsd_set
abbrev pub undsd : Policy → Name → Result Policy Refusal
undsd policy name =
    decided
    ((has_set policy.dsd name, Unknown) ∷ [])
    (record policy { dsd = without_set policy.dsd name })
