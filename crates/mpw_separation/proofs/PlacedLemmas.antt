-- Sets with the indexes of their roles.
use Rattle.std.proofs.Common.{◌≡◌, ℕ, zero, suc, ◌<◌, ◌≤◌, Bool, true, false, ◌&&◌, List, [], ◌∷◌, length, filter, get_or, map, refl, sym, ap, subst, ◌∙◌, true≢false, not, cond, Ok, arith}
use Rattle.std.specs.Prelude.{nat_le}
use Rattle.std.specs.List.{IsDistinct}
use Rattle.mpw_geom.specs.Names.{name_eq}
use Rattle.mpw_roles.specs.declared.mask.Mask.{Mask}
use Rattle.mpw_roles.specs.Hierarchy.{Name, Hierarchy, role_names}
use Rattle.mpw_roles.specs.Mask.{common}
use Rattle.mpw_roles.specs.Order.{IsHierarchy, are_distinct}
use Rattle.mpw_roles.proofs.NamedLemmas.{names-apart, common-below}
use Rattle.mpw_separation.specs.Placed.{IsPlaced, IsBelow, role_lists}
use Rattle.mpw_separation.specs.Rows as rows
use Rattle.mpw_separation.specs.Separation.{breaks, has_set, without_set}
use Rattle.mpw_separation.specs.Set.{SeparationSet, has_form}

last_part : (a b c : Bool) → (a && (b && c)) ≡ true → c ≡ true
last_part true true c e = e
last_part true false c e = absurd (true≢false (sym e))
last_part false b c e = absurd (true≢false (sym e))

pub form-distinct : (set : SeparationSet) → has_form set ≡ true → IsDistinct name_eq set.roles
form-distinct set form = names-apart set.roles
    (last_part (nat_le 2 set.cardinality) (nat_le set.cardinality (length set.roles))
    (are_distinct set.roles) form)

-- a set of this form is broken if as many indexes as its cardinality are in both masks
pub broken-places : (h : Hierarchy) (seniors : List Name) (set : SeparationSet) (own below : Mask)
    → IsHierarchy h → has_form set ≡ true → IsPlaced (role_names h) set.roles own
    → IsBelow h seniors below
    → nat_le set.cardinality (common own below) ≡ breaks h seniors set
broken-places h seniors set own below is form at_own at_below =
    ap (nat_le set.cardinality)
    (common-below h seniors set.roles own below is (form-distinct set form) at_own at_below)

fewer-left : (p : SeparationSet → Bool) (sets : List SeparationSet)
    → length (filter p sets) ≤ length sets
fewer-left p [] = omega arith
fewer-left p (x ∷ xs) =
    let rest = fewer-left p xs in
    elim (p x) as (λ b. length (cond b (x ∷ filter p xs) (filter p xs)) ≤ length (x ∷ xs))
    [ true ↦ omega arith | false ↦ omega arith ]

-- what is left if a set is removed
pub fewer_sets : (sets left : List SeparationSet) (name : Name) → rows.remove sets name ≡ Ok left
    → length left ≤ length sets
fewer_sets sets left name is =
    elim (has_set sets name) as (λ b. has_set sets name ≡ b → length left ≤ length sets) [
      | true ↦ λ there.
          let same : Ok (without_set sets name) ≡ Ok left = rw there at is in
          let left_is : without_set sets name ≡ left = cc in
          subst (λ (l : List SeparationSet). length l ≤ length sets) left_is
          (fewer-left (λ set. not (name_eq name set.name)) sets)
      | false ↦ λ none. absurd (let never = rw none at is in cc)
    ] refl

-- the roles of the set at an index
pub roles-at : (sets : List SeparationSet) (i : ℕ) (set : SeparationSet) → i < length sets
    → set ≡ get_or sets i set → get_or (role_lists sets) i [] ≡ set.roles
roles-at [] i set inside is = absurd (omega arith)
roles-at (x ∷ xs) zero set inside is = ap (λ (s : SeparationSet). s.roles) (sym is)
roles-at (x ∷ xs) (suc i) set inside is = roles-at xs i set (omega arith) is
