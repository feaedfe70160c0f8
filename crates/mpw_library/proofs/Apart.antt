-- Names that no earlier structure has.
use Rattle.std.proofs.Common.{◌≡◌, ℕ, ◌+◌, Bool, true, false, cond, List, [], ◌∷◌, ◌++◌, Option, Some, None, refl}
use Rattle.std.specs.List.{AllByRecursion}
use Rattle.mpw_geom.specs.Names.{name_eq}
use Rattle.mpw_structures.specs.declared.structures.Structure.{Structure}
use Rattle.mpw_structures.specs.Places.{place_from}
use Rattle.mpw_library.specs.Derivation.{HaveNamesApart}

absent : (b : Bool) (i : ℕ) (o : Option ℕ) → cond b (Some i) o ≡ None → (b ≡ false) × (o ≡ None)
absent true i o e = absurd cc
absent false i o e = (refl, e)

module _ (P : Structure → Type 0) where
  all_push : (ss : List Structure) (t : Structure) → AllByRecursion P ss → P t
      → AllByRecursion P (ss ++ t ∷ [])
  all_push [] t h p = (p, tt)
  all_push (s ∷ ss) t h p = (h.0, all_push ss t h.1 p)

  all_front : (ss more : List Structure) → AllByRecursion P (ss ++ more) → AllByRecursion P ss
  all_front [] more h = tt
  all_front (s ∷ ss) more h = (h.0, all_front ss more h.1)

  all_last : (ss : List Structure) (t : Structure) → AllByRecursion P (ss ++ t ∷ []) → P t
  all_last [] t h = h.0
  all_last (s ∷ ss) t h = all_last ss t h.1

pub apart_push : (i : ℕ) (ss : List Structure) (t : Structure) → HaveNamesApart ss
    → place_from i ss t.name ≡ None → HaveNamesApart (ss ++ t ∷ [])
apart_push i [] t h e = (tt, tt)
apart_push i (s ∷ ss) t h e =
    let a = absent (name_eq s.name t.name) i (place_from (i + 1) ss t.name) e in
    (all_push (λ u. name_eq s.name u.name ≡ false) ss t h.0 a.0, apart_push (i + 1) ss t h.1 a.1)

pub apart_front : (ss more : List Structure) → HaveNamesApart (ss ++ more) → HaveNamesApart ss
apart_front [] more h = tt
apart_front (s ∷ ss) more h =
    (all_front (λ u. name_eq s.name u.name ≡ false) ss more h.0, apart_front ss more h.1)

pub apart_new : (i : ℕ) (ss : List Structure) (t : Structure) → HaveNamesApart (ss ++ t ∷ [])
    → place_from i ss t.name ≡ None
apart_new i [] t h = refl
apart_new i (s ∷ ss) t h =
    rw (all_last (λ u. name_eq s.name u.name ≡ false) ss t h.0) (apart_new (i + 1) ss t h.1)
