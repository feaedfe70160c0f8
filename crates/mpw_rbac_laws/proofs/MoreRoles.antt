-- More active roles permit no less.
use Rattle.std.proofs.Common.{[], ◌≡◌, Bool, true, false, ◌||◌, ◌&&◌, inl, inr, List, ◌∷◌, ap}
use Rattle.std.specs.List.{list_any}
use Rattle.mpw_geom.specs.Names.{contains_name}
use Rattle.mpw_roles.specs.Hierarchy.{Name}
use Rattle.mpw_roles.specs.Order.{roles_below}
use Rattle.mpw_roles.proofs.CallerLemmas.{or_cases, or_right, roles_below-grows}
use Rattle.mpw_permissions.specs.Grant.{operation_eq, object_eq, is_granted_to}
use Rattle.mpw_rbac.specs.Laws.{IsPart}
use Rattle.mpw_rbac_laws.specs.Laws.{PermitsNoLess}
use Rattle.mpw_rbac.specs.Policy.{Policy}
use Rattle.mpw_permissions.specs.declared.permission.Object.{Object}
use Rattle.mpw_permissions.specs.declared.permission.Operation.{Operation}

and_three : (a b c d : Bool) → (c ≡ true → d ≡ true) → (a && (b && c)) ≡ true
    → (a && (b && d)) ≡ true
and_three true true c d more is = more is
and_three true false c d more is = is
and_three false b c d more is = is

any-more : {X : Type 0} (p q : X → Bool) → ((x : X) → p x ≡ true → q x ≡ true) → (xs : List X)
    → list_any p xs ≡ true → list_any q xs ≡ true
any-more p q more [] is = is
any-more p q more (x ∷ xs) is = elim (or_cases (p x) (list_any p xs) is) [
  | inl here ↦ ap (λ b. b || list_any q xs) (more x here)
  | inr later ↦ or_right (q x) (list_any q xs) (any-more p q more xs later)
]

pub permits-more : (policy : Policy) (user : Name) (few many : List Name) (operation : Operation)
    (object : Object) → IsPart few many → PermitsNoLess policy user few many operation object
permits-more policy user few many operation object more is =
    any-more (is_granted_to (roles_below policy.roles few) operation object)
    (is_granted_to (roles_below policy.roles many) operation object)
    (λ g. and_three (operation_eq operation g.operation) (object_eq object g.object)
    (contains_name (roles_below policy.roles few) g.role)
    (contains_name (roles_below policy.roles many) g.role)
    (λ was. roles_below-grows policy.roles policy.roles few many (λ a b p. p) (λ r p. p) more g.role
    was))
    policy.granted is
