-- Laws of the decision tables.
use Rattle.std.specs.Prelude.{◌≡◌, ℕ, Bool, true, ◌&&◌, ◌==◌, List, Result, Ok, Some, is_some}
use Rattle.std.specs.List.{list_any, list_all}
use Rattle.mpw_geom.specs.Names.{name_eq, contains_name}
use Rattle.mpw_roles.specs.Hierarchy.{Name}
use Rattle.mpw_geom.specs.Least.{IsLeast}
use Rattle.mpw_separation.specs.Separation.{broken_names}
use Rattle.mpw_rbac.specs.declared.refusal.Refusal.{Refusal}
use Rattle.mpw_permissions.specs.declared.permission.Object.{Object}
use Rattle.mpw_permissions.specs.declared.permission.Operation.{Operation}
use Rattle.mpw_rbac.specs.declared.session.Session.{Session}
use Rattle.mpw_rbac.specs.Policy.{Policy, session_of, session_permits, assigned_lists, active_lists}
use Rattle.mpw_rbac.specs.Sound.{active_authorized}

-- if a table accepts, the policy after it preserves that every active role is authorized
abbrev pub KeepsAuthorization : (Policy → Result Policy Refusal) → Type 0
KeepsAuthorization row =
    (p q : Policy) → row p ≡ Ok q → active_authorized p ≡ true → active_authorized q ≡ true

-- the same of any property, if the connection has a session
abbrev pub KeepsInSession : (Policy → Type 0) → ℕ → (Policy → Result Policy Refusal) → Type 0
KeepsInSession P connection row = (p q : Policy) → is_some (session_of p connection) ≡ true
    → row p ≡ Ok q → P p → P q

-- what the first active roles permit a user, the others permit too
abbrev pub PermitsNoLess : Policy → Name → List Name → List Name → Operation → Object → Type 0
PermitsNoLess policy user few many operation object =
    session_permits policy (record { user = user; active = few }) operation object ≡ true
    → session_permits policy (record { user = user; active = many }) operation object ≡ true

-- the name is the first, in alphabetical order, of the static sets that some user of the policy
-- breaks
abbrev pub IsLeastStatic : Policy → Name → Type 0
IsLeastStatic policy name =
    IsLeast (broken_names policy.roles policy.ssd (assigned_lists policy.users)) (Some name)

-- the name is the first, in alphabetical order, of the dynamic sets that some session of the
-- policy breaks
abbrev pub IsLeastDynamic : Policy → Name → Type 0
IsLeastDynamic policy name =
    IsLeast (broken_names policy.roles policy.dsd (active_lists policy.sessions)) (Some name)

-- whether a session is the same as another one, with no other active roles
abbrev pub is_session_of : ℕ × Session → ℕ × Session → Bool
is_session_of new old = (new.0 == old.0)
    && (name_eq new.1.user old.1.user && list_all (contains_name old.1.active) new.1.active)

-- if a table accepts, each session after it was there before, and has no more active roles
abbrev pub AddsNoActive : (Policy → Result Policy Refusal) → Type 0
AddsNoActive row =
    (p q : Policy) → row p ≡ Ok q → list_all
    (λ (new : ℕ × Session). list_any (is_session_of new) p.sessions) q.sessions ≡ true
