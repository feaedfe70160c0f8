-- Names, each once, in two lists.
use Rattle.std.proofs.Common.{◌≡◌, ℕ, ◌+◌, length, None, Some, Option, is_some, arith, true, false, cond, not, ◌||◌, List, [], ◌∷◌, ◌++◌, refl, sym, ap, ◌∙◌, true≢false, append_assoc}
use Rattle.std.specs.Prelude.{position}
use Rattle.std.specs.Option.{option_map}
use Rattle.mpw_geom.specs.Names.{name_eq, contains_name}
use Rattle.mpw_geom.proofs.Linked.{name_eq-refl}
use Rattle.mpw_roles.specs.Hierarchy.{Name}
use Rattle.mpw_roles.specs.Order.{are_distinct}
use Rattle.indexmap.specs.IndexSet.{insert_key}
use Rattle.mpw_roles.proofs.PositionLemmas.{position-any, position-cons, position-right}
use Rattle.mpw_roles.proofs.RoleLemmas.{contains-append, name_eq-apart}
use Rattle.mpw_roles.proofs.BoolLemmas.{and_parts, and_both, not_true, neither}

-- the name that follows some names is none of them
pub name-next : (xs ys : List Name) (n : Name) → are_distinct (xs ++ n ∷ ys) ≡ true
    → contains_name xs n ≡ false
name-next [] ys n once = refl
name-next (x ∷ xs) ys n once =
    let p = and_parts (not (contains_name (xs ++ n ∷ ys) x)) (are_distinct (xs ++ n ∷ ys)) once in
    let none =
    sym (contains-append xs (n ∷ ys) x) ∙ not_true (contains_name (xs ++ n ∷ ys) x) p.0 in
    let apart = (neither (name_eq x n) (contains_name ys x)
    (neither (contains_name xs x) (contains_name (n ∷ ys) x) none).1).0 in
    (λ i. name_eq-apart x n apart i || name-next xs ys n p.1 i)

-- the first names are distinct too
pub distinct-left : (xs ys : List Name) → are_distinct (xs ++ ys) ≡ true → are_distinct xs ≡ true
distinct-left [] ys once = refl
distinct-left (x ∷ xs) ys once =
    let p = and_parts (not (contains_name (xs ++ ys) x)) (are_distinct (xs ++ ys)) once in
    let none = neither (contains_name xs x) (contains_name ys x) (sym (contains-append xs ys x)
    ∙ not_true (contains_name (xs ++ ys) x) p.0) in
    and_both (not (contains_name xs x)) (are_distinct xs) (ap not none.0)
    (distinct-left xs ys p.1)

-- the next name is added to the set
pub next-inserted : (set rest all : List Name) (n : Name) → are_distinct all ≡ true
    → set ++ n ∷ rest ≡ all → insert_key name_eq set n ++ rest ≡ all
next-inserted set rest all n once is =
    let new : contains_name set n ≡ false = name-next set rest n (ap are_distinct is ∙ once) in
    ap (λ b. cond b set (set ++ n ∷ []) ++ rest) new ∙ append_assoc set (n ∷ []) rest ∙ is

-- a new name gets the next number
pub last-number : (names : List Name) (n : Name) (number : ℕ) → contains_name names n ≡ false
    → number ≡ length names → Some number ≡ position (name_eq n) (names ++ n ∷ [])
last-number names n number new is =
    let none : position (name_eq n) names ≡ None = absent (position (name_eq n) names)
    (position-any (name_eq n) names ∙ new) in
    ap Some is
    ∙ sym (position-right (name_eq n) names (n ∷ []) none
    ∙ ap (option_map (λ i. length names + i)) (position-cons (name_eq n) n []
    ∙ ap (λ b. cond b (Some 0) None) (name_eq-refl n))
    ∙ ap Some (omega arith))
  where
    absent : (o : Option ℕ) → is_some o ≡ false → o ≡ None
    absent None is = refl
    absent (Some i) is = absurd (true≢false is)
