-- Keys of a column in order, and those of one list.
use Rattle.std.proofs.Common.{◌≡◌, ◌∙◌, ℕ, suc, ◌+◌, ◌<◌, ◌≤◌, ◌==◌, ℤ, ◌+ℤ◌, int_cmp, Bool, true, false, List, [], ◌∷◌, ◌++◌, map, length, get_or, take, drop, leb, ltb, nat_cmp, is_lt}
use Rattle.std.proofs.Common.{Ordering, Less, Bor, refl, sym, subst, ap, ◌⊎◌, inl, inr, take-append-drop, append-nil, length-take-le, length-drop, get_or-take, get_or-drop, arith}
use Rattle.std.specs.Prelude.{Contains, All, filter}
use Rattle.std.specs.Cmp.{IsTotalOrder, IsStrictWeakOrder}
use Rattle.std.specs.Fn.{Called, ComparesAs}
use Rattle.std.specs.List.{dedup, AllWithin}
use Rattle.std.specs.List.Sorted.{IsSorted, IsSortedBy, IsStrictlySortedBy, IsNonDecreasingBy, IsPartitionPoint}
use Rattle.std.specs.Ordering.{eq_by_cmp, ordering_then}
use Rattle.std.proofs.lemmas.Bool.{cases_lt}
use Rattle.std.proofs.lemmas.Cmp.{then_total, on_total, nat_cmp_total, int_cmp_total, eq_by_cmp_equiv}
use Rattle.std.proofs.lemmas.Fn.{always_returns_same}
use Rattle.std.proofs.lemmas.Int.{ints}
use Rattle.std.proofs.lemmas.List.Elements.{All-from_recursion, All-map, filter-append}
use Rattle.std.proofs.lemmas.List.Kept.{AllPairs-cons, IsStrictlySortedBy-dedup, Contains-from_dedup, Any-dedup}
use Rattle.std.proofs.lemmas.List.Sorted.{ranks_by}
use denote.Param.Members.{Mut}
use Rattle.mpw_markers.specs.declared.marker.Key.{Key}
use Rattle.mpw_columns_keys.specs.Keys.{list_number, key_cmp, AreInOrder, displaced_key}

-- ---- the order of keys

pub key_total : IsTotalOrder key_cmp
key_total =
    then_total (on_total list_number nat_cmp_total)
    (then_total (on_total (λ k. k.piece.x1) int_cmp_total)
    (then_total (on_total (λ k. k.piece.x2) int_cmp_total)
    (on_total (λ k. k.piece.y0) int_cmp_total)))

-- by the clause of the sort
pub sorted_from_sort : {F : Type 0} {g : Mut F (Bor Key × (Bor Key × Unit {0})) Ordering} {f : F}
    (xs : List Key) → ((lt : Key → Key → Bool) → IsStrictWeakOrder lt → ComparesAs g lt f
    → IsSortedBy lt xs)
    → ((a : Bor Key × (Bor Key × Unit {0})) (r : Ordering) (f' : F) → Called g f a r f'
    → (r ≡ key_cmp a.0.now a.1.0.now) × (f' ≡ f)) → IsSorted key_cmp xs
sorted_from_sort {g = g} {f = f} xs up h =
    up (λ x y. is_lt (key_cmp x y)) (ranks_by key_total (λ (k : Key). k))
    (always_returns_same g (λ a r. is_lt r ≡ is_lt (key_cmp a.0.now a.1.0.now)) f
    (λ a r f' k. (ap is_lt (h a r f' k).0, (h a r f' k).1)))

strictly : (xs : List Key) → IsStrictlySortedBy key_cmp xs → AreInOrder xs
unfolding IsStrictlySortedBy
strictly [] h = λ i j d l b. absurd (omega arith)
strictly (x ∷ xs) h =
    AllPairs-cons (λ k l. key_cmp k l ≡ Less) x xs
    (All-from_recursion (λ y. key_cmp x y ≡ Less) xs h.0) (strictly xs h.1)

pub in_order : (xs ys : List Key) → IsSorted key_cmp xs → ys ≡ dedup (eq_by_cmp key_cmp) xs
    → AreInOrder ys
in_order xs ys h e =
    subst AreInOrder (sym e)
    (strictly (dedup (eq_by_cmp key_cmp) xs)
    (IsStrictlySortedBy-dedup key_total (λ x y. refl) xs h))

pub none_added : (xs ys : List Key) (k : Key) → ys ≡ dedup (eq_by_cmp key_cmp) xs → Contains ys k
    → Contains xs k
none_added xs ys k e c =
    Contains-from_dedup (eq_by_cmp key_cmp) xs k
    (subst (λ (ks : List Key). Contains ks k) e c)

pub place_kept : (xs ys : List Key) (k : Key) → ys ≡ dedup (eq_by_cmp key_cmp) xs → Contains xs k
    → (l : Key) × Contains ys l × (eq_by_cmp key_cmp k l ≡ true)
place_kept xs ys k e c =
    let p = Any-dedup (eq_by_cmp_equiv key_total) xs k c in
    subst (λ (ks : List Key). (l : Key) × Contains ks l × (eq_by_cmp key_cmp k l ≡ true)) (sym e)
    (p.1, (p.0, p.2, p.3), p.4)

-- ---- the keys of a list

module _ {X : Type 0} where
  within_take : (P : X → Type 0) (xs : List X) (i : ℕ) → i ≤ length xs → AllWithin P xs 0 i
      → All P (take i xs)
  within_take P xs i le h k d lt =
      let short = length-take-le i xs le in
      let inside : k < i = omega (arith, lt, short) in
      subst P (sym (get_or-take i xs k d inside)) (h k d (omega arith) inside)

  within_drop : (P : X → Type 0) (xs : List X) (i : ℕ) → AllWithin P xs i (length xs)
      → All P (drop i xs)
  within_drop P xs i h k d lt =
      let short = length-drop i xs in
      subst P (sym (get_or-drop i xs k d)) (h (i + k) d (omega arith) (omega (arith, lt, short)))

  none_of : (p : X → Bool) (xs : List X) → All (λ x. p x ≡ false) xs → filter p xs ≡ []
  none_of p [] h = refl
  none_of p (x ∷ xs) h = rw (h 0 x (omega arith))
      (none_of p xs (λ k d l. h (suc k) d (omega (arith, l))))

  all_of : (p : X → Bool) (xs : List X) → All (λ x. p x ≡ true) xs → filter p xs ≡ xs
  all_of p [] h = refl
  all_of p (x ∷ xs) h = rw (h 0 x (omega arith))
      (ap (λ (ys : List X). x ∷ ys) (all_of p xs (λ k d l. h (suc k) d (omega (arith, l)))))

  module _ (n : X → ℕ) (t : ℕ) where
    abbrev is : X → Bool
    is x = n x == t

    -- below t, t, and above it
    below : (x : X) → ltb (n x) t ≡ true → is x ≡ false
    below x e = grind (arith)

    above : (x : X) → leb (n x) t ≡ false → is x ≡ false
    above x e = grind (arith)

    there : (x : X) → ltb (n x) t ≡ false → leb (n x) t ≡ true → is x ≡ true
    there x e f = grind (arith)

    -- what is between the two points
    pub stretch : (xs : List X) (before count : ℕ) → before ≤ length xs
        → count ≤ length (drop before xs)
        → IsPartitionPoint (λ x. ltb (n x) t ≡ true) (λ x. ltb (n x) t ≡ false) xs before
        → IsPartitionPoint (λ x. leb (n x) t ≡ true) (λ x. leb (n x) t ≡ false) (drop before xs)
        count → take count (drop before xs) ≡ filter is xs
    stretch xs before count le within first second = sym whole
      where
        rest : List X
        rest = drop before xs

        front : filter is (take before xs) ≡ []
        front = none_of is (take before xs) (λ k d l. below (get_or (take before xs) k d)
            (within_take (λ x. ltb (n x) t ≡ true) xs before le first.0 k d l))

        middle : filter is (take count rest) ≡ take count rest
        middle = all_of is (take count rest) (λ k d l.
            let small = length-take-le count rest within in
            let inside : k < count = omega (arith, l, small) in
            subst (λ (x : X). is x ≡ true) (sym (get_or-take count rest k d inside))
            (there (get_or rest k d)
            (within_drop (λ x. ltb (n x) t ≡ false) xs before first.1 k d
            (omega (arith, inside, within)))
            (second.0 k d (omega arith) inside)))

        back : filter is (drop count rest) ≡ []
        back = none_of is (drop count rest) (λ k d l. above (get_or (drop count rest) k d)
            (within_drop (λ x. leb (n x) t ≡ false) rest count second.1 k d l))

        whole : filter is xs ≡ take count rest
        whole =
            ap (filter is) (sym (take-append-drop before xs))
            ∙ filter-append is (take before xs) rest
            ∙ ap (λ (ys : List X). ys ++ filter is rest) front
            ∙ ap (filter is) (sym (take-append-drop count rest))
            ∙ filter-append is (take count rest) (drop count rest)
            ∙ ap (λ (ys : List X). filter is (take count rest) ++ ys) back
            ∙ append-nil (filter is (take count rest))
            ∙ middle

-- keys in order have their lists in order
lists_rise : (k l : Key) → key_cmp k l ≡ Less → list_number k ≤ list_number l
lists_rise k l e = first_rises (list_number k) (list_number l) _ e
  where
    first_rises : (a b : ℕ) (o : Ordering) → ordering_then (nat_cmp a b) o ≡ Less → a ≤ b
    first_rises a b o e = grind (arith)

pub numbers_rise : (keys : List Key) → AreInOrder keys → IsNonDecreasingBy list_number keys
numbers_rise keys h i j d le lt = at (cases_lt i j)
  where
    at : (i < j) ⊎ (j ≤ i) → list_number (get_or keys i d) ≤ list_number (get_or keys j d)
    at (inl less) = lists_rise (get_or keys i d) (get_or keys j d) (h i j d less lt)
    at (inr more) =
        let same : i ≡ j = omega (arith, le, more) in
        subst (λ (m : ℕ). list_number (get_or keys i d) ≤ list_number (get_or keys m d)) same
        (omega arith)

-- ---- keys that are displaced

cmp_on : (by x y : ℤ) → int_cmp (x +ℤ by) (y +ℤ by) ≡ int_cmp x y
cmp_on by x y = grind (arith, ints)

key_cmp_on : (by : ℤ) (k l : Key) → key_cmp (displaced_key by k) (displaced_key by l) ≡ key_cmp k l
key_cmp_on by k l =
    let first = cmp_on by k.piece.x1 l.piece.x1 in
    let second = cmp_on by k.piece.x2 l.piece.x2 in
    rw first (rw second refl)

pub order_kept : (by : ℤ) (keys : List Key) → AreInOrder keys
    → AreInOrder (map (displaced_key by) keys)
order_kept by [] h = λ i j d lt within. absurd (omega arith)
order_kept by (k ∷ ks) h =
    AllPairs-cons (λ x y. key_cmp x y ≡ Less) (displaced_key by k) (map (displaced_key by) ks)
    (All-map (λ y. key_cmp (displaced_key by k) y ≡ Less) (displaced_key by) ks
    (λ n d lt. key_cmp_on by k (get_or ks n d) ∙ h 0 (suc n) d (omega arith) (omega arith)))
    (order_kept by ks (λ i j d lt within. h (suc i) (suc j) d (omega arith) (omega arith)))
