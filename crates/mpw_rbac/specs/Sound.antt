-- What every reachable policy preserves.
use Rattle.std.specs.Prelude.{◌≡◌, ℕ, Bool, true, not, ◌&&◌, List, nat_lt}
use Rattle.std.specs.List.{list_all}
use Rattle.mpw_geom.specs.Names.{contains_name}
use Rattle.mpw_roles.specs.Hierarchy.{Name, Hierarchy, is_role}
use Rattle.mpw_separation.specs.Set.{SeparationSet}
use Rattle.mpw_separation.specs.Separation.{is_broken}
use Rattle.mpw_rbac.specs.Policy.{Policy, is_user, authorized, assigned_lists, active_lists}
use Rattle.mpw_rbac.specs.declared.session.Session.{Session}

-- whether the user of a session exists, and is authorized for each of its active roles
abbrev pub is_authorized_session : Policy → Session → Bool
is_authorized_session policy session =
    is_user policy session.user && list_all (contains_name (authorized policy session.user))
    session.active

-- each session has a user who exists, and every active role is authorized
abbrev pub active_authorized : Policy → Bool
active_authorized policy =
    list_all (λ (entry : ℕ × Session). is_authorized_session policy entry.1) policy.sessions

-- none of the sets is broken by one of these lists of seniors
abbrev pub sets_hold : Hierarchy → List SeparationSet → List (List Name) → Bool
sets_hold hierarchy sets holders = list_all (λ set. not (is_broken hierarchy holders set)) sets

-- a set has roles that exist, and doesn't forbid having none of them
abbrev pub is_proper : Hierarchy → SeparationSet → Bool
is_proper hierarchy set = nat_lt 0 set.cardinality && list_all (is_role hierarchy) set.roles

-- every active role is authorized; the static sets hold for the authorized roles of every user, and the
-- dynamic ones for the acting roles of every session; and the sets are proper
pub record Sound (policy : Policy) : Type 0 where
  pub sessions : active_authorized policy ≡ true
  pub static : sets_hold policy.roles policy.ssd (assigned_lists policy.users) ≡ true
  pub dynamic : sets_hold policy.roles policy.dsd (active_lists policy.sessions) ≡ true
  pub static_proper : list_all (is_proper policy.roles) policy.ssd ≡ true
  pub dynamic_proper : list_all (is_proper policy.roles) policy.dsd ≡ true
