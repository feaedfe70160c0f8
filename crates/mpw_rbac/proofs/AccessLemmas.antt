-- The acting roles of a connection say what its session is permitted.
use Rattle.std.proofs.Common.{◌≡◌, ℕ, Bool, true, false, ◌||◌, ◌&&◌, List, [], ◌∷◌, filter, None, Some, refl, ap, ◌∙◌}
use Rattle.std.specs.List.{list_any}
use Rattle.std.specs.Option.{option_map_or}
use Rattle.mpw_roles.specs.Hierarchy.{Name, Hierarchy, role_names}
use Rattle.mpw_roles.specs.Order.{is_below, roles_below}
use Rattle.mpw_permissions.specs.Grant.{operation_eq, object_eq, is_granted_to}
use Rattle.mpw_rbac.specs.Policy.{Policy, session_of, session_permits, permits}
use Rattle.mpw_rbac.specs.Rows as rows
use Rattle.mpw_permissions.specs.declared.permission.Grant.{Grant}
use Rattle.mpw_permissions.specs.declared.permission.Object.{Object}
use Rattle.mpw_permissions.specs.declared.permission.Operation.{Operation}
use Rattle.mpw_rbac.specs.declared.session.Session.{Session}

none-granted : (operation : Operation) (object : Object) (granted : List Grant)
    → list_any (is_granted_to [] operation object) granted ≡ false
none-granted operation object [] = refl
none-granted operation object (g ∷ gs) = λ i. none (operation_eq operation g.operation)
    (object_eq object g.object) i || none-granted operation object gs i
  where
    none : (a b : Bool) → (a && (b && false)) ≡ false
    none true true = refl
    none true false = refl
    none false b = refl

none-below : (h : Hierarchy) (names : List Name) → filter (is_below h []) names ≡ []
none-below h [] = refl
none-below h (n ∷ ns) = none-below h ns

pub permits-acting : (p : Policy) (connection : ℕ) (operation : Operation) (object : Object)
    → list_any
    (is_granted_to (roles_below p.roles (rows.active_roles p connection)) operation object)
    p.granted ≡ permits p connection operation object
permits-acting p connection operation object =
    elim (session_of p connection) as (λ o. list_any
    (is_granted_to (roles_below p.roles (option_map_or (λ (s : Session). s.active) o []))
    operation object) p.granted ≡ option_map_or
    (λ (s : Session). session_permits p s operation object) o false) [
      | None ↦ ap (λ l. list_any (is_granted_to l operation object) p.granted)
          (none-below p.roles (role_names p.roles)) ∙ none-granted operation object p.granted
      | Some s ↦ refl
    ]

-- if every session ended, nothing is permitted
pub nothing-permitted : (p : Policy) (connection : ℕ) (operation : Operation) (object : Object)
    → permits (rows.end_sessions p) connection operation object ≡ false
nothing-permitted p connection operation object = refl
