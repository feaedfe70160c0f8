-- Markers of groups, joined rule by rule: their order, and which they are.
use Rattle.std.proofs.Common.{◌≡◌, ◌∙◌, ℕ, zero, suc, ◌+◌, ◌<◌, ◌≤◌, ◌==◌, Bool, true, false, cond, List, [], ◌∷◌, ◌++◌, length, get_or, map, take, Option, Some, None, Ordering, Less, Equal, nat_cmp, ◌⊎◌, inl, inr, refl, sym, ap, subst, arith}
use Rattle.std.specs.Prelude.{All, AllPairs, Contains, filter, slice_get, slice_index_or}
use Rattle.std.specs.Ordering.{int_cmp, ordering_then}
use Rattle.std.proofs.lemmas.Bool.{eqb-true, eq-eqb}
use Rattle.std.proofs.lemmas.Cmp.{nat_cmp_total, tied_itself}
use Rattle.std.proofs.lemmas.List.{length-map, get_or-map, map-append}
use Rattle.std.proofs.lemmas.List.Elements.{All-append, All-contains, All-filter, All-map, All-weaker, Contains-append_cases, Contains-append_left, Contains-append_right, Contains-get_or, Contains-push_cases, filter_more, filter_passes}
use Rattle.std.proofs.lemmas.List.Kept.{AllPairs-cons, AllPairs-filter}
use Rattle.mpw_edges.specs.Pieces.{axis_cmp}
use Rattle.mpw_markers.specs.declared.marker.Line.{Line}
use Rattle.mpw_markers.specs.declared.marker.Marker.{Marker}
use Rattle.mpw_markers.specs.Book.{IsBook}
use Rattle.mpw_markers.specs.Markers.{line_of, IsFilled}
use Rattle.mpw_markers.specs.Met.{IsAscending}
use Rattle.mpw_markers.specs.Order.{StandsBefore}
use Rattle.mpw_check_groups.specs.declared.joining.Owner.{Owner}
use Rattle.mpw_check_groups.specs.Joined.{joined_from, taken, taken_at, with_rule}
use Rattle.mpw_check_groups.proofs.Squared.{line_at}
use Rattle.mpw_check_groups.proofs.Touched.{of_filter}

-- ---- lists

filter_has : {X : Type 0} (p : X → Bool) (xs : List X) (x : X) → Contains xs x → p x ≡ true
    → Contains (filter p xs) x
filter_has p [] x c e = absurd (omega (arith, c.1))
filter_has {X = X} p (y ∷ ys) x c e =
    at (p y) refl (λ behind. filter_has p ys x behind e) (Contains-append_cases (y ∷ []) ys x c)
  where
    at : (b : Bool) → p y ≡ b → (Contains ys x → Contains (filter p ys) x)
        → (Contains (y ∷ []) x ⊎ Contains ys x)
        → Contains (cond b (y ∷ filter p ys) (filter p ys)) x
    at true f rest (inl here) = Contains-append_left (y ∷ []) (filter p ys) x here
    at false f rest (inl here) = elim (Contains-push_cases [] y x here) [
      | inl none ↦ absurd (omega (arith, none.1))
      | inr same ↦ absurd (let clash : false ≡ true = sym f ∙ ap p same ∙ e in cc)
    ]
    at true f rest (inr behind) = Contains-append_right (y ∷ []) (filter p ys) x (rest behind)
    at false f rest (inr behind) = rest behind

of_map : {X Y : Type 0} (f : X → Y) (xs : List X) (y : Y) → Contains (map f xs) y
    → (x : X) × Contains xs x × (f x ≡ y)
of_map f [] y c = absurd (omega (arith, c.1))
of_map f (x ∷ xs) y c = elim (Contains-append_cases (f x ∷ []) (map f xs) y c) [
  | inl h ↦ elim (Contains-push_cases [] (f x) y h) [
    | inl n ↦ absurd (omega (arith, n.1))
    | inr e ↦ (x, (0, omega arith, refl), e)
  ]
  | inr h ↦ let p = of_map f xs y h in (p.0, Contains-append_right (x ∷ []) xs p.0 p.1, p.2)
]

to_map : {X Y : Type 0} (f : X → Y) (xs : List X) (x : X) → Contains xs x
    → Contains (map f xs) (f x)
to_map f xs x c =
    let same : length (map f xs) ≡ length xs = length-map xs f in
    let lt = c.1 in
    (c.0, omega arith, get_or-map f xs c.0 x (f x) c.1 ∙ ap f c.2)

pairs_append : {X : Type 0} (R : X → X → Type 0) (xs ys : List X) → AllPairs R xs
    → AllPairs R ys → ((x y : X) → Contains xs x → Contains ys y → R x y) → AllPairs R (xs ++ ys)
pairs_append R [] ys a b cross = b
pairs_append R (x ∷ xs) ys a b cross =
    AllPairs-cons R x (xs ++ ys)
    (All-append (R x) xs ys (λ k d l. a 0 (suc k) d (omega arith) (omega arith))
    (λ k d l. cross x (get_or ys k d) (0, omega arith, refl) (Contains-get_or ys k d l)))
    (pairs_append R xs ys (λ i j d lt within. a (suc i) (suc j) d (omega arith) (omega arith)) b
    (λ y z c e. cross y z (Contains-append_right (x ∷ []) xs y c) e))

pairs_map : {X : Type 0} (R : X → X → Type 0) (f : X → X) (xs : List X)
    → ((x y : X) → Contains xs x → Contains xs y → R x y → R (f x) (f y)) → AllPairs R xs
    → AllPairs R (map f xs)
pairs_map R f xs h pairs = λ i j d less within.
    let same : length (map f xs) ≡ length xs = length-map xs f in
    let second : j < length xs = omega (arith, within, same) in
    let first : i < length xs = omega (arith, less, second) in
    rw (get_or-map f xs i d d first, get_or-map f xs j d d second)
    (h (get_or xs i d) (get_or xs j d) (Contains-get_or xs i d first)
    (Contains-get_or xs j d second) (pairs i j d less second))

-- ---- order

nat_same : (a b : ℕ) → a ≡ b → nat_cmp a b ≡ Equal
nat_same a b e = ap (nat_cmp a) (sym e) ∙ tied_itself nat_cmp_total a

nat_less : (a b : ℕ) → a < b → nat_cmp a b ≡ Less
nat_less a b l = grind (arith)

abbrev rest_cmp : Line → Line → Ordering
rest_cmp a b =
    ordering_then (axis_cmp a.axis b.axis)
    (ordering_then (nat_cmp a.side b.side)
    (ordering_then (int_cmp a.x1 b.x1) (int_cmp a.x2 b.x2)))

stands_still : (rule : ℕ) (m n : Marker) → m.key.rule ≡ n.key.rule → StandsBefore m n
    → StandsBefore (with_rule rule m) (with_rule rule n)
stands_still rule m n same (inl less) = inl
    (ap (λ o. ordering_then o (rest_cmp (line_of m) (line_of n))) (nat_same rule rule refl)
    ∙ sym (ap (λ o. ordering_then o (rest_cmp (line_of m) (line_of n)))
    (nat_same m.key.rule n.key.rule same))
    ∙ less)
stands_still rule m n same (inr tied) = inr (ap (line_at rule) tied.0, tied.1)

stands_first : (m n : Marker) → m.key.rule < n.key.rule → StandsBefore m n
stands_first m n less = inl
    (ap (λ o. ordering_then o (rest_cmp (line_of m) (line_of n)))
    (nat_less m.key.rule n.key.rule less))

-- ---- one rule

module _ (place rule : ℕ) (book : List Marker) where
  abbrev keeps : Marker → Bool
  keeps m = m.key.rule == place

  own_rule : (m : Marker) → Contains (filter keeps book) m → m.key.rule ≡ place
  own_rule m c = eqb-true m.key.rule place
      (All-contains (λ (x : Marker). keeps x ≡ true) (filter keeps book) m
      (filter_passes keeps book) c)

  pub taken_rule : All (λ (m : Marker). m.key.rule ≡ rule) (taken place rule book)
  taken_rule = All-map (λ (m : Marker). m.key.rule ≡ rule) (with_rule rule) (filter keeps book)
      (λ i d lt. refl)

  pub taken_book : IsBook book → IsBook (taken place rule book)
  taken_book h = record {
    filled = All-map IsFilled (with_rule rule) (filter keeps book)
        (All-filter keeps IsFilled book h.filled);
    ordered = pairs_map StandsBefore (with_rule rule) (filter keeps book)
        (λ m n a b. stands_still rule m n (own_rule m a ∙ sym (own_rule n b)))
        (AllPairs-filter StandsBefore keeps book h.ordered);
    ascending = All-map (λ (m : Marker). IsAscending m.met) (with_rule rule) (filter keeps book)
        (All-filter keeps (λ (m : Marker). IsAscending m.met) book h.ascending);
  }

  -- a marker of the group's rule, and the markers that are taken
  pub taken_of : (m : Marker) → Contains (taken place rule book) m → (n : Marker)
      × Contains book n × (n.key.rule ≡ place) × (with_rule rule n ≡ m)
  taken_of m c =
      let found = of_map (with_rule rule) (filter keeps book) m c in
      (found.0, of_filter keeps book found.0 found.1, own_rule found.0 found.1, found.2)

  pub to_taken : (n : Marker) → Contains book n → n.key.rule ≡ place
      → Contains (taken place rule book) (with_rule rule n)
  to_taken n c e = to_map (with_rule rule) (filter keeps book) n
      (filter_has keeps book n c (eq-eqb n.key.rule place e))

-- ---- all rules

abbrev pub AreBooks : List (List Marker) → List Owner → Type 0
AreBooks lists os =
    (i : ℕ) (o : Owner) → slice_get os i ≡ Some o → IsBook (slice_index_or lists o.group [])

module _ (lists : List (List Marker)) where
  rules_after : (k : ℕ) (os : List Owner)
      → All (λ (m : Marker). k ≤ m.key.rule) (joined_from lists k os)
  rules_after k [] = λ i d lt. absurd (omega (arith, lt))
  rules_after k (o ∷ os) =
      All-append (λ (m : Marker). k ≤ m.key.rule) (taken_at lists o k)
      (joined_from lists (k + 1) os)
      (All-weaker (λ (m : Marker). m.key.rule ≡ k) (λ (m : Marker). k ≤ m.key.rule)
      (λ m e. omega (arith, e)) (taken_at lists o k)
      (taken_rule o.place k (slice_index_or lists o.group [])))
      (All-weaker (λ (m : Marker). k + 1 ≤ m.key.rule) (λ (m : Marker). k ≤ m.key.rule)
      (λ m e. omega (arith, e)) (joined_from lists (k + 1) os) (rules_after (k + 1) os))

  pub joined_book : (k : ℕ) (os : List Owner) → AreBooks lists os
      → IsBook (joined_from lists k os)
  joined_book k [] each = record {
    filled = λ i d lt. absurd (omega (arith, lt));
    ordered = λ i j d lt within. absurd (omega (arith, within));
    ascending = λ i d lt. absurd (omega (arith, lt));
  }
  joined_book k (o ∷ os) each =
      let first = taken_book o.place k (slice_index_or lists o.group []) (each 0 o refl) in
      let rest = joined_book (k + 1) os (λ i other e. each (suc i) other e) in
      record {
        filled = All-append IsFilled (taken_at lists o k) (joined_from lists (k + 1) os)
            first.filled rest.filled;
        ordered = pairs_append StandsBefore (taken_at lists o k) (joined_from lists (k + 1) os)
            first.ordered rest.ordered
            (λ m n a b.
            let here = All-contains (λ (x : Marker). x.key.rule ≡ k) (taken_at lists o k) m
            (taken_rule o.place k (slice_index_or lists o.group [])) a in
            let there = All-contains (λ (x : Marker). k + 1 ≤ x.key.rule)
            (joined_from lists (k + 1) os) n (rules_after (k + 1) os) b in
            stands_first m n (omega (arith, here, there)));
        ascending = All-append (λ (m : Marker). IsAscending m.met) (taken_at lists o k)
            (joined_from lists (k + 1) os) first.ascending rest.ascending;
      }

  -- a joined marker is one of a rule's
  pub joined_of : (k : ℕ) (os : List Owner) (m : Marker) → Contains (joined_from lists k os) m
      → (i : ℕ) × (o : Owner) × (slice_get os i ≡ Some o)
      × Contains (taken_at lists o (k + i)) m
  joined_of k [] m c = absurd (omega (arith, c.1))
  joined_of k (o ∷ os) m c =
      elim (Contains-append_cases (taken_at lists o k) (joined_from lists (k + 1) os) m c) [
        | inl h ↦ (0, o, refl, subst (λ (r : ℕ). Contains (taken_at lists o r) m) (here k) h)
        | inr h ↦
            let p = joined_of (k + 1) os m h in (
              suc p.0,
              p.1,
              p.2,
              subst (λ (r : ℕ). Contains (taken_at lists p.1 r) m) (behind k p.0) p.3,
            )
      ]
    where
      here : (k : ℕ) → k ≡ k + 0
      here k = omega arith

      behind : (k i : ℕ) → k + 1 + i ≡ k + suc i
      behind k i = omega arith

  pub to_joined : (k : ℕ) (os : List Owner) (i : ℕ) (o : Owner) (m : Marker)
      → slice_get os i ≡ Some o → (r : ℕ) → r ≡ k + i → Contains (taken_at lists o r) m
      → Contains (joined_from lists k os) m
  to_joined k [] i o m at r e c = absurd (let clash : None ≡ Some o = at in cc)
  to_joined k (p ∷ os) zero o m at r e c =
      let same : p ≡ o = some_same p o at in
      let number : r ≡ k = omega (arith, e) in
      Contains-append_left (taken_at lists p k) (joined_from lists (k + 1) os) m
      (subst (λ (n : ℕ). Contains (taken_at lists p n) m) number
      (subst (λ (q : Owner). Contains (taken_at lists q r) m) (sym same) c))
    where
      some_same : (a b : Owner) → (let x : Option Owner = Some a in x) ≡ Some b → a ≡ b
      some_same a b h = cc
  to_joined k (p ∷ os) (suc i) o m at r e c =
      Contains-append_right (taken_at lists p k) (joined_from lists (k + 1) os) m
      (to_joined (k + 1) os i o m at r (omega (arith, e)) c)

-- ---- loops

-- one more marker is looked at
pub taken_more : (place rule : ℕ) (found : List Marker) (i : ℕ) (m : Marker) → i < length found
    → m ≡ get_or found i m → m.key.rule ≡ place
    → taken place rule (take (i + 1) found)
    ≡ taken place rule (take i found) ++ with_rule rule m ∷ []
taken_more place rule found i m inside at same =
    ap (map (with_rule rule)) (filter_more (λ (x : Marker). x.key.rule == place) found i m inside)
    ∙ ap (λ (x : Marker). map (with_rule rule) (filter (λ (y : Marker). y.key.rule == place)
    (take i found) ++ cond (x.key.rule == place) (x ∷ []) [])) (sym at)
    ∙ ap (λ b. map (with_rule rule) (filter (λ (y : Marker). y.key.rule == place) (take i found)
    ++ cond b (m ∷ []) [])) (eq-eqb m.key.rule place same)
    ∙ map-append (with_rule rule) (filter (λ (y : Marker). y.key.rule == place) (take i found))
    (m ∷ [])
