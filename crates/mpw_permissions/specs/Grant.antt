-- Grants, by their parts, and lists of them.
use Rattle.std.specs.Prelude.{ℕ, Bool, true, false, not, ◌&&◌, ◌==◌, List, filter}
use Rattle.mpw_geom.specs.Names.{name_eq, contains_name}
use Rattle.mpw_roles.specs.Hierarchy.{Name}
use Rattle.mpw_permissions.specs.declared.permission.Operation.{Operation}
use Rattle.mpw_permissions.specs.declared.permission.Operation.TheVariants.{Submit, Use, Read, Place, Admin, Deck, Run, Waive, Sign, Verdict, Audit}
use Rattle.mpw_permissions.specs.declared.permission.Object.{Object}
use Rattle.mpw_permissions.specs.declared.permission.Object.TheVariants.{Cell, Desk}
use Rattle.mpw_permissions.specs.declared.permission.Grant.{Grant}

-- the index of an operation among all
abbrev pub operation_index : Operation → ℕ
operation_index Submit = 0
operation_index Use = 1
operation_index Read = 2
operation_index Place = 3
operation_index Admin = 4
operation_index Deck = 5
operation_index Run = 6
operation_index Waive = 7
operation_index Sign = 8
operation_index Verdict = 9
operation_index Audit = 10

abbrev pub operation_eq : Operation → Operation → Bool
operation_eq a b = operation_index a == operation_index b

abbrev pub object_eq : Object → Object → Bool
object_eq (Cell a) (Cell b) = name_eq a b
object_eq (Cell a) Desk = false
object_eq Desk (Cell b) = false
object_eq Desk Desk = true

abbrev pub grant_eq : Grant → Grant → Bool
grant_eq a b =
    operation_eq a.operation b.operation && (object_eq a.object b.object && name_eq a.role b.role)

-- whether a grant is of this operation on this object to one of the roles
abbrev pub is_granted_to : List Name → Operation → Object → Grant → Bool
is_granted_to roles operation object grant =
    operation_eq operation grant.operation
    && (object_eq object grant.object && contains_name roles grant.role)

-- the grants without one
abbrev pub without_grant : List Grant → Grant → List Grant
without_grant grants grant = filter (λ other. not (grant_eq grant other)) grants

-- the grants without those to a role
abbrev pub ungranted : List Grant → Name → List Grant
ungranted granted role = filter (λ (grant : Grant). not (name_eq role grant.role)) granted
