-- Sorted names without repeats are `by_name` of any list with the same names.
use Rattle.std.proofs.Common.{◌≡◌, ℕ, Bool, true, false, cond, ◌&&◌, ◌||◌, List, [], ◌∷◌, map, Some, None, Option, refl, sym, ap, subst, ◌∙◌}
use Rattle.std.specs.Prelude.{T}
use Rattle.std.specs.List.{list_any, dedup, dedup_from, AllByRecursion}
use Rattle.std.specs.List.Sorted.{IsPermutation, IsSorted, IsStrictlySortedBy}
use Rattle.std.specs.Ordering.{is_lt, eq_by_cmp}
use Rattle.std.specs.declared.cmp.Ordering.TheVariants.{Less}
use Rattle.std.specs.Cmp.Lexicographic.{nat_list_cmp_total, texts_ties, bytes_decides}
use Rattle.std.specs.FinMap.{slice_cmp-IsAntisymmetric, nat_cmp-IsAntisymmetric}
use Rattle.std.specs.FinMap.Entries.{is_sorted, below_all, is_sorted-put, find, find-put, same_entries}
use Rattle.std.proofs.lemmas.List.Sorted.{list_any-IsPermutation}
use Rattle.std.proofs.lemmas.List.Kept.{IsStrictlySortedBy-dedup}
use Rattle.mpw_geom.specs.Names.{name_eq, name_cmp, contains_name, placed_by_name, by_name}

abbrev Entry : Type 0
Entry = List ℕ × Unit {0}

-- a name as an entry
abbrev entry : List ℕ → Entry
entry name = (name, tt)

abbrev marked : Bool → Option (Unit {0})
marked b = cond b (Some tt) None

marked-or : (a b : Bool) → cond a (Some tt) (marked b) ≡ marked (a || b)
marked-or true b = refl
marked-or false b = refl

or_same : (a b : Bool) → (a || b) ≡ (a || (a || b))
or_same true b = refl
or_same false b = refl

any_from : (q k : List ℕ) (xs : List (List ℕ))
    → list_any (name_eq q) (dedup_from name_eq k xs) ≡ (name_eq q k || list_any (name_eq q) xs)
any_from q k [] = refl
any_from q k (x ∷ xs) =
    elim (name_eq x k) as (λ b. name_eq x k ≡ b
    → list_any (name_eq q) (cond b (dedup_from name_eq k xs) (k ∷ dedup_from name_eq x xs))
    ≡ (name_eq q k || (name_eq q x || list_any (name_eq q) xs))) [
      | true ↦ λ same. any_from q k xs ∙ or_same (name_eq q k) _
          ∙ ap (λ y. name_eq q k || (name_eq q y || list_any (name_eq q) xs))
          (sym ((bytes_decides x k).0 same))
      | false ↦ λ _. ap (λ b. name_eq q k || b) (any_from q x xs)
    ] refl

-- `dedup` leaves each name in the list
any-dedup : (q : List ℕ) (xs : List (List ℕ))
    → list_any (name_eq q) (dedup name_eq xs) ≡ list_any (name_eq q) xs
any-dedup q [] = refl
any-dedup q (x ∷ xs) = any_from q x xs

ties : (q k : List ℕ) → eq_by_cmp name_cmp q k ≡ name_eq q k
ties q k = sym (texts_ties q k)

find-entries : (q : List ℕ) (ys : List (List ℕ))
    → find name_cmp q (map entry ys) ≡ marked (list_any (name_eq q) ys)
find-entries q [] = refl
find-entries q (y ∷ ys) = ap (λ b. cond b (Some tt) (find name_cmp q (map entry ys))) (ties q y)
    ∙ ap (cond (name_eq q y) (Some tt)) (find-entries q ys) ∙ marked-or (name_eq q y) _

find-placed : (q : List ℕ) (xs : List (List ℕ))
    → find name_cmp q (placed_by_name xs) ≡ marked (list_any (name_eq q) xs)
find-placed q [] = refl
find-placed q (x ∷ xs) = find-put name_cmp nat_list_cmp_total q x tt (placed_by_name xs)
    ∙ ap (λ b. cond b (Some tt) (find name_cmp q (placed_by_name xs))) (ties q x)
    ∙ ap (cond (name_eq q x) (Some tt)) (find-placed q xs) ∙ marked-or (name_eq q x) _

placed_sorted : (xs : List (List ℕ)) → T (is_sorted name_cmp (placed_by_name xs))
placed_sorted [] = tt
placed_sorted (x ∷ xs) = is_sorted-put name_cmp nat_list_cmp_total x tt _ (placed_sorted xs)

both : (a b : Bool) → T a → T b → T (a && b)
both true b p q = q
both false b p q = p

below : (x : List ℕ) (ys : List (List ℕ)) → AllByRecursion (λ y. name_cmp x y ≡ Less) ys
    → T (below_all name_cmp x (map entry ys))
below x [] h = tt
below x (y ∷ ys) h = both _ _ (subst (λ r. T (is_lt r)) (sym h.0) tt) (below x ys h.1)

strict_sorted : (ys : List (List ℕ)) → IsStrictlySortedBy name_cmp ys
    → T (is_sorted name_cmp (map entry ys))
unfolding IsStrictlySortedBy
strict_sorted [] h = tt
strict_sorted (y ∷ ys) h = both _ _ (below y ys h.0) (strict_sorted ys h.1)

names-entries : (ys : List (List ℕ)) → map (λ (e : Entry). e.0) (map entry ys) ≡ ys
names-entries [] = refl
names-entries (y ∷ ys) = ap (λ l. y ∷ l) (names-entries ys)

-- what a sort and then `dedup` leave
pub by_name-sorted : (xs ys : List (List ℕ)) → IsPermutation xs ys → IsSorted name_cmp ys
    → by_name xs ≡ dedup name_eq ys
by_name-sorted xs ys moved sorted =
    let zs = dedup name_eq ys in
    let same = same_entries name_cmp nat_list_cmp_total
    (slice_cmp-IsAntisymmetric nat_cmp-IsAntisymmetric) (placed_by_name xs) (map entry zs)
    (placed_sorted xs) (strict_sorted zs
    (IsStrictlySortedBy-dedup nat_list_cmp_total texts_ties ys sorted))
    (λ q. find-placed q xs ∙ ap marked (list_any-IsPermutation (name_eq q) xs ys moved
    ∙ sym (any-dedup q ys)) ∙ sym (find-entries q zs)) in
    ap (map (λ (e : Entry). e.0)) same ∙ names-entries zs

entries-names : (es : List Entry) → map entry (map (λ (e : Entry). e.0) es) ≡ es
entries-names [] = refl
entries-names (e ∷ es) = ap (λ l. e ∷ l) (entries-names es)

unmarked : (a b : Bool) → marked a ≡ marked b → a ≡ b
unmarked true true e = refl
unmarked false false e = refl
unmarked true false e = absurd cc
unmarked false true e = absurd cc

-- the names by their bytes are the same names
pub in_by_name : (q : List ℕ) (xs : List (List ℕ))
    → contains_name (by_name xs) q ≡ contains_name xs q
in_by_name q xs =
    unmarked _ _ (sym (find-entries q (by_name xs))
    ∙ ap (find name_cmp q) (entries-names (placed_by_name xs)) ∙ find-placed q xs)

-- lists with the same names are the same by the bytes of their names
pub by_name-same : (xs ys : List (List ℕ))
    → ((q : List ℕ) → contains_name xs q ≡ contains_name ys q) → by_name xs ≡ by_name ys
by_name-same xs ys same =
    ap (map (λ (e : Entry). e.0)) (same_entries name_cmp nat_list_cmp_total
    (slice_cmp-IsAntisymmetric nat_cmp-IsAntisymmetric) (placed_by_name xs) (placed_by_name ys)
    (placed_sorted xs) (placed_sorted ys) (λ q. find-placed q xs ∙ ap marked (same q)
    ∙ sym (find-placed q ys)))
