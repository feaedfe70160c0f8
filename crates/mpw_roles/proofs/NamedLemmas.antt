-- The indexes of some names, and how many of them others have.
use Rattle.std.proofs.Common.{◌≡◌, ℕ, zero, suc, ◌+◌, ◌-◌, ◌<◌, ◌≤◌, Bool, true, false, cond, ◌&&◌, ◌||◌, List, [], ◌∷◌, length, filter, get_or, eqb, eq-eqb, Some, refl, sym, ap, ◌∙◌, true≢false, inl, inr, arith}
use Rattle.std.proofs.Math.Nat.{add-zero}
use Rattle.std.specs.Prelude.{nat_lt, not, position, count_by}
use Rattle.std.specs.List.{range_with_len, IsDistinct, AllByRecursion}
use Rattle.std.specs.Set.{IsIntersection}
use Rattle.std.proofs.lemmas.Bool.{lt-ltb, ltb-true, le-ltb, cases_eq, cases_lt, ne_eqb, and_right}
use Rattle.std.proofs.lemmas.Cmp.{nat_list_eq_equiv}
use Rattle.std.proofs.lemmas.List.Sums.{sum_by-cons, length-filter}
use Rattle.std.proofs.lemmas.Map.Keys.{IsDistinct-cons, IsDistinct-head, IsDistinct-tail}
use Rattle.std.proofs.lemmas.Map.Made.{length-IsIntersection}
use Rattle.mpw_geom.specs.Names.{name_eq, contains_name}
use Rattle.mpw_geom.proofs.Linked.{same_name, name_eq-refl}
use Rattle.mpw_roles.specs.declared.mask.Mask.{Mask}
use Rattle.mpw_roles.specs.Hierarchy.{Name, Hierarchy, role_names, is_role}
use Rattle.mpw_roles.specs.Mask.{has, common}
use Rattle.mpw_roles.specs.Order.{are_distinct, is_below, roles_below, IsHierarchy}
use Rattle.mpw_roles.specs.Places.{name_at, is_place_of, is_place_below}
use Rattle.mpw_roles.proofs.BitLemmas.{name-found, name-is_role}
use Rattle.mpw_roles.proofs.CommonLemmas.{count-first, count-split, common_upto, common-all}
use Rattle.mpw_roles.proofs.HierarchyLemmas.{contains-filter}
use Rattle.mpw_roles.proofs.MarksLemmas.{distinct-first, length-names}
use Rattle.mpw_roles.proofs.BoolLemmas.{refuted, not_true, and_parts, neither}

others-apart : (n : Name) (ns : List Name) → contains_name ns n ≡ false
    → AllByRecursion (λ y. name_eq n y ≡ false) ns
others-apart n [] e = tt
others-apart n (x ∷ xs) e = let p = neither (name_eq n x) (contains_name xs n) e in
    (p.0, others-apart n xs p.1)

-- names that each occur once
pub names-apart : (ns : List Name) → are_distinct ns ≡ true → IsDistinct name_eq ns
unfolding IsDistinct
names-apart [] e = tt
names-apart (n ∷ ns) e =
    let p = and_parts (not (contains_name ns n)) (are_distinct ns) e in
    IsDistinct-cons name_eq n ns (others-apart n ns (not_true (contains_name ns n) p.0))
    (names-apart ns p.1)

-- the name at an index is that role, at its own index alone
at-place : (h : Hierarchy) → IsHierarchy h → (n : Name) (i : ℕ)
    → Some i ≡ position (name_eq n) (role_names h) → (q : ℕ)
    → (nat_lt q (length (role_names h)) && name_eq (name_at h q) n) ≡ eqb q i
at-place h is n i at q =
    let apart = names-apart (role_names h) is.roles_once in
    let found = name-found h n i at in
    let size = length-names h in
    elim (cases_eq q i) [
      | inl same ↦
          ap (λ b. b && name_eq (name_at h q) n)
          (lt-ltb q (length (role_names h)) (omega (arith, same, size, found.0)))
          ∙ (λ t. name_eq (name_at h (same t)) n) ∙ ap (λ m. name_eq m n) found.1
          ∙ name_eq-refl n ∙ sym (eq-eqb q i same)
      | inr other ↦ elim (cases_lt q (length (role_names h))) [
        | inl inside ↦
            and_right (nat_lt q (length (role_names h))) (name_eq (name_at h q) n)
            (ap (name_eq (name_at h q)) (sym found.1)
            ∙ elim (cases_lt i q) [
              | inl before ↦ distinct-first (role_names h) apart q i inside before
              | inr after ↦ refuted (name_eq (name_at h q) (name_at h i)) (λ equal.
                  true≢false (sym (ap (name_eq (name_at h i))
                  (same_name (name_at h q) (name_at h i) equal) ∙ name_eq-refl (name_at h i))
                  ∙ distinct-first (role_names h) apart i q (omega (arith, size, found.0))
                  (omega arith)))
            ])
            ∙ sym (ne_eqb q i other)
        | inr past ↦ ap (λ b. b && name_eq (name_at h q) n)
            (le-ltb q (length (role_names h)) past) ∙ sym (ne_eqb q i other)
      ]
    ]

share : (o l a b c : Bool) → (l && a) ≡ c → ((o || c) || (l && b)) ≡ (o || (l && (a || b)))
share true l a b c e = refl
share false true a b c e = ap (λ t. t || b) (sym e)
share false false a b c e = ap (λ t. t || false) (sym e)

-- the index of one more name
pub turn-place : (h : Hierarchy) → IsHierarchy h → (n : Name) (rest : List Name) (i : ℕ)
    → Some i ≡ position (name_eq n) (role_names h) → (q : ℕ) (before : Bool)
    → ((before || eqb q i) || is_place_of (role_names h) rest q)
    ≡ (before || is_place_of (role_names h) (n ∷ rest) q)
turn-place h is n rest i at q before =
    share before (nat_lt q (length (role_names h))) (name_eq (name_at h q) n)
    (contains_name rest (name_at h q)) (eqb q i) (at-place h is n i at q)

-- one more name that is no role has no index
pub turn-no_place : (h : Hierarchy) (n : Name) (rest : List Name) (q : ℕ) (before : Bool)
    → is_role h n ≡ false
    → (before || is_place_of (role_names h) rest q)
    ≡ (before || is_place_of (role_names h) (n ∷ rest) q)
turn-no_place h n rest q before none =
    ap (λ b. before || b) (elim (nat_lt q (length (role_names h))) as
    (λ b. nat_lt q (length (role_names h)) ≡ b → (b && contains_name rest (name_at h q))
    ≡ (b && (name_eq (name_at h q) n || contains_name rest (name_at h q)))) [
      | true ↦ λ inside.
          let within : q < length h = omega (
            arith,
            length-names h,
            ltb-true q (length (role_names h)) inside,
          ) in
          let other : name_eq (name_at h q) n ≡ false = refuted (name_eq (name_at h q) n)
          (λ equal. true≢false (sym (name-is_role h q within)
          ∙ ap (is_role h) (same_name (name_at h q) n equal) ∙ none)) in
          ap (λ b. b || contains_name rest (name_at h q)) (sym other)
      | false ↦ λ _. refl
    ] refl)

all-filter : (P : Name → Type 0) (p : Name → Bool) (ns : List Name) → AllByRecursion P ns
    → AllByRecursion P (filter p ns)
all-filter P p [] all = tt
all-filter P p (n ∷ ns) all =
    elim (p n) as (λ b. AllByRecursion P (cond b (n ∷ filter p ns) (filter p ns)))
    [ true ↦ (all.0, all-filter P p ns all.1) | false ↦ all-filter P p ns all.1 ]

apart-filter : (p : Name → Bool) (ns : List Name) → IsDistinct name_eq ns
    → IsDistinct name_eq (filter p ns)
unfolding IsDistinct
apart-filter p [] apart = tt
apart-filter p (n ∷ ns) apart =
    elim (p n) as (λ b. IsDistinct name_eq (cond b (n ∷ filter p ns) (filter p ns))) [
      | true ↦ IsDistinct-cons name_eq n (filter p ns)
          (all-filter (λ y. name_eq n y ≡ false) p ns (IsDistinct-head name_eq n ns apart))
          (apart-filter p ns (IsDistinct-tail name_eq n ns apart))
      | false ↦ apart-filter p ns (IsDistinct-tail name_eq n ns apart)
    ]

-- a count over the indexes of names is one over the names
count-names : (p : Name → Bool) (q : ℕ → Bool) (ns : List Name) (k : ℕ)
    → ((i : ℕ) → i < length ns → q (k + i) ≡ p (get_or ns i []))
    → count_by q (range_with_len k (length ns)) ≡ count_by p ns
count-names p q [] k at = refl
count-names p q (n ∷ ns) k at =
    let here : k ≡ k + 0 = omega arith in
    let first : q k ≡ p n = ap q here ∙ at 0 (omega arith) in
    count-first q k (length ns)
    ∙ (λ t. cond (first t) 1 0 + count-names p q ns (k + 1) (λ i inside.
    let next : k + 1 + i ≡ k + suc i = omega arith in ap q next ∙ at (suc i) (omega arith)) t)
    ∙ sym (sum_by-cons (λ m. cond (p m) 1 0) n ns)

count-none : (q : ℕ → Bool) (n k : ℕ) → ((i : ℕ) → k ≤ i → q i ≡ false)
    → count_by q (range_with_len k n) ≡ 0
count-none q zero k none = refl
count-none q (suc n) k none =
    let rest = count-none q n (k + 1) (λ i past. none i (omega arith)) in
    let first = ap (λ b. cond b 1 0) (none k (omega arith)) in
    count-first q k n ∙ (λ t. first t + rest t)

regroup : (r b s : Bool) → (r && (s && b)) ≡ (s && (r && b))
regroup true b s = refl
regroup false b true = refl
regroup false b false = refl

-- of distinct names, as many are below some seniors as both masks have indexes in common
pub common-below : (h : Hierarchy) (seniors names : List Name) (own below : Mask) → IsHierarchy h
    → IsDistinct name_eq names → ((q : ℕ) → has own q ≡ is_place_of (role_names h) names q)
    → ((q : ℕ) → has below q ≡ is_place_below h seniors q)
    → common own below ≡ count_by (contains_name (roles_below h seniors)) names
common-below h seniors names own below is apart at_own at_below =
    let rs = role_names h in
    let p : Name → Bool = λ r. contains_name names r && is_below h seniors r in
    let q : ℕ → Bool = λ i. has own i && has below i in
    let size = length-names h in
    let small = is.small in
    let whole : 512 ≡ length rs + (512 - length rs) = omega arith in
    let inside : (i : ℕ) → i < length rs → q (0 + i) ≡ p (get_or rs i []) = λ i within.
    let at : 0 + i ≡ i = omega arith in
    ap q at
    ∙ (λ t. at_own i t && at_below i t)
    ∙ (λ t. (lt-ltb i (length rs) within t && contains_name names (name_at h i))
    && (lt-ltb i (length h) (omega arith) t && is_below h seniors (name_at h i))) in
    let past : (i : ℕ) → 0 + length rs ≤ i → q i ≡ false = λ i beyond.
    and_right (has own i) (has below i)
    (at_below i ∙ ap (λ b. b && is_below h seniors (name_at h i))
    (le-ltb i (length h) (omega arith))) in
    let zs = filter p rs in
    let shared : IsIntersection name_eq names (roles_below h seniors) zs = λ r.
    contains-filter p rs r
    ∙ regroup (is_role h r) (is_below h seniors r) (contains_name names r)
    ∙ ap (λ b. contains_name names r && b) (sym (contains-filter (is_below h seniors) rs r)) in
    sym (common-all own below)
    ∙ ap (common_upto own below) whole
    ∙ count-split q (length rs) 0 (512 - length rs)
    ∙ (λ t. count-names p q rs 0 inside t
    + count-none q (512 - length rs) (0 + length rs) past t)
    ∙ add-zero (count_by p rs)
    ∙ sym (length-filter p rs)
    ∙ length-IsIntersection nat_list_eq_equiv names (roles_below h seniors) zs apart
    (apart-filter p rs (names-apart rs is.roles_once)) shared
