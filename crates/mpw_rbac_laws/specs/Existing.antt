-- What the tables of every policy that requests lead to preserve: they name users and roles that exist, and
-- have no more rows than their limits allow.
use Rattle.std.specs.Prelude.{◌≡◌, ◌≤◌, ℕ, Bool, true, ◌&&◌, List, length, Result, Ok}
use Rattle.std.specs.List.{list_all}
use Rattle.mpw_roles.specs.Hierarchy.{Name, Hierarchy, is_role, max_roles}
use Rattle.mpw_separation.specs.Separation.{max_sets}
use Rattle.mpw_separation.specs.Set.{SeparationSet}
use Rattle.mpw_permissions.specs.declared.permission.Grant.{Grant}
use Rattle.mpw_rbac.specs.declared.refusal.Refusal.{Refusal}
use Rattle.mpw_rbac.specs.declared.session.Session.{Session}
use Rattle.mpw_rbac.specs.declared.session.User.{User}
use Rattle.mpw_rbac.specs.Policy.{Policy, is_user, max_users, max_grants}
use Rattle.mpw_rbac.specs.Sound.{Sound}

-- each assigned role of each user exists
abbrev pub assigns_roles : Hierarchy → List (Name × User) → Bool
assigns_roles hierarchy users =
    list_all (λ (entry : Name × User). list_all (is_role hierarchy) entry.1.roles) users

-- each immediate junior of each of these is a role
abbrev pub leads_to_roles : Hierarchy → Hierarchy → Bool
leads_to_roles hierarchy pairs =
    list_all (λ (entry : Name × List Name). list_all (is_role hierarchy) entry.1) pairs

-- each grant is to a role
abbrev pub grants_roles : Hierarchy → List Grant → Bool
grants_roles hierarchy granted = list_all (λ (grant : Grant). is_role hierarchy grant.role) granted

-- each set has roles that exist
abbrev pub sets_name_roles : Hierarchy → List SeparationSet → Bool
sets_name_roles hierarchy sets =
    list_all (λ (set : SeparationSet). list_all (is_role hierarchy) set.roles) sets

-- each session has a user who exists, and its active roles are roles
abbrev pub is_session_there : Policy → Session → Bool
is_session_there policy session =
    is_user policy session.user && list_all (is_role policy.roles) session.active

pub record NamesAreThere (policy : Policy) : Type 0 where
  pub assignments : assigns_roles policy.roles policy.users ≡ true
  pub pairs : leads_to_roles policy.roles policy.roles ≡ true
  pub grants : grants_roles policy.roles policy.granted ≡ true
  pub static : sets_name_roles policy.roles policy.ssd ≡ true
  pub dynamic : sets_name_roles policy.roles policy.dsd ≡ true
  pub sessions : list_all (λ (entry : ℕ × Session). is_session_there policy entry.1) policy.sessions
      ≡ true

pub record KeepsLimits (policy : Policy) : Type 0 where
  pub users : length policy.users ≤ max_users
  pub roles : length policy.roles ≤ max_roles
  pub grants : length policy.granted ≤ max_grants
  pub static : length policy.ssd ≤ max_sets
  pub dynamic : length policy.dsd ≤ max_sets

-- what holds of a policy that requests lead to
pub record AreTablesSound (policy : Policy) : Type 0 where
  pub sound : Sound policy
  pub names : NamesAreThere policy
  pub limits : KeepsLimits policy

-- if a table accepts, the policy after it preserves this
abbrev pub KeepsTables : (Policy → Result Policy Refusal) → Type 0
KeepsTables row = (p q : Policy) → row p ≡ Ok q → AreTablesSound p → AreTablesSound q
