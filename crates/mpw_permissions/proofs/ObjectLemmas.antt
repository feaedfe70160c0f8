-- Objects that are equal.
use Rattle.std.proofs.Common.{◌≡◌, true, refl, sym, ap, ◌∙◌, true≢false}
use Rattle.std.specs.Cmp.{both_ways}
use Rattle.mpw_roles.proofs.CallerLemmas.{same_name, name_eq-refl}
use Rattle.mpw_permissions.specs.Grant.{object_eq}
use Rattle.mpw_permissions.specs.declared.permission.Object.{Object}
use Rattle.mpw_permissions.specs.declared.permission.Object.TheVariants.{Cell, Desk}

-- objects that are equal are the same
pub same_object : (a b : Object) → object_eq a b ≡ true → a ≡ b
same_object (Cell a) (Cell b) is = ap Cell (same_name a b is)
same_object (Cell a) Desk is = absurd (true≢false (sym is))
same_object Desk (Cell b) is = absurd (true≢false (sym is))
same_object Desk Desk is = refl

object-refl : (a : Object) → object_eq a a ≡ true
object-refl (Cell a) = name_eq-refl a
object-refl Desk = refl

pub other_way : (a b : Object) → object_eq a b ≡ object_eq b a
other_way a b = both_ways _ _
    (λ is. ap (object_eq b) (same_object a b is) ∙ object-refl b)
    (λ is. ap (object_eq a) (same_object b a is) ∙ object-refl a)
