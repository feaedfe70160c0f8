-- The table of roles with new numbers.
use Rattle.std.proofs.Common.{◌≡◌, ℕ, zero, suc, ◌+◌, ◌<◌, ◌≤◌, true, false, cond, not, ◌||◌, inl, inr, List, [], ◌∷◌, ◌++◌, length, map, filter, take, get_or, eqb, eq-eqb, Some, None, is_some, refl, sym, ap, ◌∙◌, true≢false, arith}
use Rattle.std.specs.Prelude.{position, unwrap_or}
use Rattle.std.specs.List.{list_all, range_with_len}
use Rattle.std.specs.Cmp.{both_ways}
use Rattle.std.proofs.lemmas.Bool.{cases_eq}
use Rattle.std.proofs.lemmas.List.{take_more, map-append, get_or-map, length-map}
use Rattle.std.proofs.lemmas.List.FromFn.{map-range_with_len_more}
use Rattle.std.proofs.lemmas.List.Quantifiers.{position-Some}
use Rattle.mpw_geom.proofs.Linked.{or_cases}
use Rattle.mpw_roles.specs.declared.pairs.Pair.{Pair}
use Rattle.mpw_roles.specs.Hierarchy.{Name}
use Rattle.mpw_roles.specs.Internal.Table.{name_of, juniors_of, entry_of, entries_of, has_number, are_once, is_between, place_in, placed_pair, IsTable}
use Rattle.mpw_roles.proofs.NumberLemmas.{or_later, eqb-back, position-once, distinct-numbered}
use Rattle.mpw_roles.proofs.PositionLemmas.{item-there, position-any}
use Rattle.mpw_roles.proofs.BoolLemmas.{refuted, and_parts, and_both}

-- one more item
pub mapped-more : {A B : Type 0} (f : A → B) (xs : List A) (i : ℕ) (d x : A) → i < length xs
    → x ≡ get_or xs i d → map f (take (i + 1) xs) ≡ map f (take i xs) ++ f x ∷ []
mapped-more f xs i d x inside is = ap (map f) (take_more xs i d inside)
    ∙ map-append f (take i xs) (get_or xs i d ∷ [])
    ∙ ap (λ y. map f (take i xs) ++ f y ∷ []) (sym is)

pub range-more : (a n j : ℕ) → a + n ≡ j → range_with_len a (n + 1) ≡ range_with_len a n ++ j ∷ []
range-more a n j is = sym (itself (range_with_len a (n + 1)))
    ∙ map-range_with_len_more (λ k. k) a n j is
    ∙ ap (λ l. l ++ j ∷ []) (itself (range_with_len a n))
  where
    itself : (xs : List ℕ) → map (λ k. k) xs ≡ xs
    itself [] = refl
    itself (x ∷ xs) = ap (λ l. x ∷ l) (itself xs)

-- the numbers from one on
pub range-has : (k n m : ℕ) → has_number (range_with_len k n) m ≡ true → (k ≤ m) × (m < k + n)
range-has k zero m is = absurd (true≢false (sym is))
range-has k (suc n) m is = elim (or_cases (eqb m k) (has_number (range_with_len (k + 1) n) m) is) [
  | inl here ↦ let same = eqb-back m k here in (omega arith, omega arith)
  | inr later ↦ let rest = range-has (k + 1) n m later in
      (omega (arith, rest.0), omega (arith, rest.1))
]

pub range-there : (k n m : ℕ) → k ≤ m → m < k + n → has_number (range_with_len k n) m ≡ true
range-there k zero m low high = absurd (omega arith)
range-there k (suc n) m low high = elim (cases_eq m k) [
  | inl here ↦ ap (λ b. b || has_number (range_with_len (k + 1) n) m) (eq-eqb m k here)
  | inr other ↦ or_later (eqb m k) _ (range-there (k + 1) n m (omega arith) (omega arith))
]

pub range-once : (k n : ℕ) → are_once (range_with_len k n) ≡ true
range-once k zero = refl
range-once k (suc n) = and_both (not (has_number (range_with_len (k + 1) n) k)) _
    (ap not (refuted (has_number (range_with_len (k + 1) n) k) (λ there.
    let low = (range-has (k + 1) n k there).0 in absurd (omega (arith, low)))))
    (range-once (k + 1) n)

-- a number by its index, and back
place-back : (os : List ℕ) (n : ℕ) → has_number os n ≡ true
    → (place_in os n < length os) × (get_or os (place_in os n) 0 ≡ n)
place-back os n there = found (position (λ m. eqb n m) os) refl
  where
    found : (o : _) → position (λ m. eqb n m) os ≡ o
        → (unwrap_or o 0 < length os) × (get_or os (unwrap_or o 0) 0 ≡ n)
    found None at = absurd (true≢false (sym (position-any (λ m. eqb n m) os ∙ there)
        ∙ ap is_some at))
    found (Some i) at = let is = position-Some (λ m. eqb n m) os i 0 at in
        (is.0, sym (eqb-back n (get_or os i 0) is.1))

place-of-item : (os : List ℕ) (i : ℕ) → are_once os ≡ true → i < length os
    → place_in os (get_or os i 0) ≡ i
place-of-item os i once inside = ap (λ o. unwrap_or o 0)
    (sym (position-once os i (get_or os i 0) once (item-there os i (get_or os i 0) 0 inside refl)))

same-test : (os : List ℕ) (i n : ℕ) → are_once os ≡ true → i < length os → has_number os n ≡ true
    → eqb i (place_in os n) ≡ eqb (get_or os i 0) n
same-test os i n once inside there = both_ways _ _
    (λ is. eq-eqb (get_or os i 0) n (ap (λ k. get_or os k 0) (eqb-back i (place_in os n) is)
    ∙ (place-back os n there).1))
    (λ is. eq-eqb i (place_in os n) (sym (place-of-item os i once inside)
    ∙ ap (place_in os) (eqb-back (get_or os i 0) n is)))

-- the juniors of a role by their indexes
placed-juniors : (ns : List Name) (os : List ℕ) (ps : List Pair) (i : ℕ) → are_once os ≡ true
    → list_all (is_between os) ps ≡ true → i < length os
    → map (name_of (map (name_of ns) os)) (juniors_of (map (placed_pair os) ps) i)
    ≡ map (name_of ns) (juniors_of ps (get_or os i 0))
placed-juniors ns os [] i once between inside = refl
placed-juniors ns os (p ∷ ps) i once between inside =
    let both = and_parts (is_between os p) (list_all (is_between os) ps) between in
    let ends = and_parts (has_number os p.senior) (has_number os p.junior) both.0 in
    let rest = placed-juniors ns os ps i once both.1 inside in
    let q = placed_pair os p in
    let qs = map (placed_pair os) ps in
    let s = get_or os i 0 in
    let back = place-back os p.junior ends.1 in
    ap (λ b. map (name_of (map (name_of ns) os)) (map (λ (x : Pair). x.junior) (cond b
    (q ∷ filter (λ (x : Pair). eqb i x.senior) qs) (filter (λ (x : Pair). eqb i x.senior) qs))))
    (same-test os i p.senior once inside ends.0)
    ∙ elim (eqb s p.senior) as (λ b.
    map (name_of (map (name_of ns) os)) (map (λ (x : Pair). x.junior) (cond b
    (q ∷ filter (λ (x : Pair). eqb i x.senior) qs) (filter (λ (x : Pair). eqb i x.senior) qs)))
    ≡ map (name_of ns) (map (λ (x : Pair). x.junior) (cond b
    (p ∷ filter (λ (x : Pair). eqb s x.senior) ps) (filter (λ (x : Pair). eqb s x.senior) ps)))) [
      | true ↦ λ t.
          (get_or-map (name_of ns) os (place_in os p.junior) 0 [] back.0
          ∙ ap (name_of ns) back.1) t ∷ rest t
      | false ↦ rest
    ]

mapped-range : {A B : Type 0} (f : ℕ → B) (g : A → B) (xs : List A) (k : ℕ)
    → ((i : ℕ) (d : A) → i < length xs → f (k + i) ≡ g (get_or xs i d))
    → map f (range_with_len k (length xs)) ≡ map g xs
mapped-range f g [] k same = refl
mapped-range f g (x ∷ xs) k same =
    let here : k ≡ k + 0 = omega arith in
    λ t. (ap f here ∙ same 0 x (omega arith)) t
    ∷ mapped-range f g xs (k + 1) (λ i d inside.
    let next : k + 1 + i ≡ k + suc i = omega arith in ap f next ∙ same (suc i) d (omega arith)) t

-- the same roles by other numbers
pub renumbered-entries : (ns : List Name) (ps : List Pair) (os : List ℕ) → IsTable ns ps os
    → entries_of (map (name_of ns) os) (map (placed_pair os) ps) (range_with_len 0 (length os))
    ≡ entries_of ns ps os
renumbered-entries ns ps os table =
    mapped-range (entry_of (map (name_of ns) os) (map (placed_pair os) ps)) (entry_of ns ps) os 0
    (λ i d inside.
    let first : 0 + i ≡ i = omega arith in
    let item : get_or os i 0 ≡ get_or os i d = get_or-other os i 0 d inside in
    ap (entry_of (map (name_of ns) os) (map (placed_pair os) ps)) first
    ∙ (λ t. entry (get_or-map (name_of ns) os i 0 [] inside t)
    (placed-juniors ns os ps i table.once table.between inside t))
    ∙ ap (entry_of ns ps) item)
  where
    entry : Name → List Name → Name × List Name
    entry name juniors = (name, juniors)

    get_or-other : (xs : List ℕ) (i a b : ℕ) → i < length xs → get_or xs i a ≡ get_or xs i b
    get_or-other [] i a b inside = absurd (omega arith)
    get_or-other (x ∷ xs) zero a b inside = refl
    get_or-other (x ∷ xs) (suc i) a b inside = get_or-other xs i a b (omega arith)

pub renumbered-table : (ns : List Name) (ps : List Pair) (os : List ℕ) → IsTable ns ps os
    → IsTable (map (name_of ns) os) (map (placed_pair os) ps) (range_with_len 0 (length os))
renumbered-table ns ps os table = record {
  names_once = distinct-numbered ns os table.known table.names_once table.once;
  once = range-once 0 (length os);
  known = λ k there. let below = (range-has 0 (length os) k there).1 in
      omega (arith, below, length-map os (name_of ns));
  between = placed-between ps table.between;
}
  where
    placed-between : (qs : List Pair) → list_all (is_between os) qs ≡ true
        → list_all (is_between (range_with_len 0 (length os))) (map (placed_pair os) qs) ≡ true
    placed-between [] all = refl
    placed-between (q ∷ qs) all =
        let both = and_parts (is_between os q) (list_all (is_between os) qs) all in
        let ends = and_parts (has_number os q.senior) (has_number os q.junior) both.0 in
        and_both (is_between (range_with_len 0 (length os)) (placed_pair os q)) _
        (and_both (has_number (range_with_len 0 (length os)) (place_in os q.senior)) _
        (inside q.senior ends.0) (inside q.junior ends.1))
        (placed-between qs both.1)
      where
        inside : (n : ℕ) → has_number os n ≡ true
            → has_number (range_with_len 0 (length os)) (place_in os n) ≡ true
        inside n there = let below = (place-back os n there).0 in
            range-there 0 (length os) (place_in os n) (omega arith) (omega (arith, below))
