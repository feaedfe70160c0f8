-- The index of a key in a book, by a binary search.
use Rattle.std.proofs.Common.{◌≡◌, ◌==◌, ◌&&◌, ℕ, ◌+◌, ◌<◌, ℤ, ◌<ℤ◌, Bool, true, false, cond, nat_lt, Some, None, Ok, Err, Option, Result, List, length, get_or, slice_get, inl, inr, refl, sym, subst, ap, ◌∙◌, true≢false, Decides, arith}
use Rattle.std.specs.Prelude.{Contains, ◌↔◌}
use Rattle.std.specs.List.Sorted.{IsBinarySearchResult, IsSortedBy}
use Rattle.std.specs.Fn.{Called, ComputesKey}
use Rattle.std.specs.List.{position_or_len}
use Rattle.std.specs.Ordering.{int_eq, int_cmp, ordering_then, ordering_reverse, is_lt}
use Rattle.std.specs.declared.cmp.Ordering.{Ordering}
use Rattle.std.specs.declared.cmp.Ordering.TheVariants.{Less, Equal, Greater}
use Rattle.std.proofs.lemmas.Int.{ints}
use Rattle.std.proofs.lemmas.Fn.{always_returns_same}
use Rattle.std.proofs.lemmas.Cmp.{tied_itself}
use Rattle.std.proofs.lemmas.Bool.{cases_lt}
use Rattle.std.proofs.lemmas.Bool.Decides.{Decides-and, Decides-like, Decides-eqb, Decides-int_eq, Decides-ltb}
use Rattle.std.proofs.lemmas.Option.{same_Some, none-some, slice_get-get_or, get_or_from_slice_get}
use Rattle.std.proofs.lemmas.List.Quantifiers.{position-Some}
use Rattle.std.proofs.lemmas.List.Sums.{position_or_len_is, fails_before_first}
use Rattle.std.proofs.lemmas.List.Elements.{All-contains}
use Rattle.std.proofs.lemmas.List.Sorted.{searchable_from_sorted}
use Rattle.std.proofs.lemmas.Map.Lookups.{exact_signed}
use denote.Param.Members.{Mut}
use denote.Ref.{Bor}
use Rattle.mpw_edges.specs.declared.run.Axis.{Axis}
use Rattle.mpw_edges.specs.declared.run.Axis.TheVariants.{V, H}
use Rattle.mpw_markers.specs.declared.marker.Line.{Line}
use Rattle.mpw_markers.specs.declared.marker.Key.{Key}
use Rattle.mpw_markers.specs.declared.marker.Marker.{Marker}
use Rattle.mpw_markers.specs.declared.place.Place.{Place}
use Rattle.mpw_markers.specs.Markers.{line_of, line_of_key, axis_eq, line_eq, key_eq, IsFilled}
use Rattle.mpw_markers.specs.Internal.Places.{line_place, place_of}
use Rattle.mpw_markers.specs.Order.{line_cmp, StandsBefore}
use Rattle.mpw_markers.specs.Book.{IsBook, place_in}
use Rattle.mpw_markers.proofs.Order.{line_place_cmp, place_cmp, place_total, line_total, line_tied, lines_alike}
use Rattle.mpw_region.proofs.Orderings.{then_first, then_second}
use Rattle.mpw_markers.proofs.Marked.{alike, no_marker, same_key}

abbrev where_is : Marker → Place
where_is m = place_of m.key

-- keys whose positions compare as equal are equal
key_tied : (k l : Key) → place_cmp (place_of k) (place_of l) ≡ Equal → k ≡ l
key_tied k l e =
    let rest = then_second (line_place_cmp (line_place (line_of_key k))
    (line_place (line_of_key l))) _ e in
    same_key k l
    (line_tied _ _ (sym (lines_alike (line_of_key k) (line_of_key l))
    ∙ then_first (line_place_cmp (line_place (line_of_key k)) (line_place (line_of_key l))) _
    e))
    (exact_signed _ _ (then_first (int_cmp k.piece.y0 l.piece.y0) _ rest))
    (exact_signed _ _ (then_second (int_cmp k.piece.y0 l.piece.y0) _ rest))

less_from : (x y : ℤ) → x <ℤ y → int_cmp x y ≡ Less
less_from x y h = grind (arith, ints)

place_less : (m n : Marker) → IsFilled m → StandsBefore m n
    → place_cmp (where_is m) (where_is n) ≡ Less
place_less m n f (inl less) = ap (λ (o : Ordering).
    ordering_then o (ordering_then (int_cmp m.key.piece.y0 n.key.piece.y0)
    (int_cmp m.key.piece.y1 n.key.piece.y1)))
    (lines_alike (line_of m) (line_of n) ∙ less)
place_less m n f (inr p) =
    let tied : line_cmp (line_of m) (line_of n) ≡ Equal = ap (line_cmp (line_of m)) (sym p.0)
    ∙ tied_itself line_total (line_of m) in
    ap (λ (o : Ordering). ordering_then o
    (ordering_then (int_cmp m.key.piece.y0 n.key.piece.y0)
    (int_cmp m.key.piece.y1 n.key.piece.y1)))
    (lines_alike (line_of m) (line_of n) ∙ tied)
    ∙ ap (λ (o : Ordering). ordering_then o (int_cmp m.key.piece.y1 n.key.piece.y1))
    (less_from m.key.piece.y0 n.key.piece.y0 (omega (arith, ints, f, p.1)))

sorted : (book : List Marker) → IsBook book
    → IsSortedBy (λ x y. is_lt (place_cmp (where_is x) (where_is y))) book
sorted book h k d low high =
    let less = place_less (get_or book k d) (get_or book (k + 1) d) (h.filled k d (omega arith))
    (h.ordered k (k + 1) d (omega arith) high) in
    ap is_lt (place_total.antisymm (where_is (get_or book (k + 1) d)) (where_is (get_or book k d))
    ∙ ap ordering_reverse less)

-- the result of the search, by the clause of its call
abbrev AnswersBy : List Marker → Place → Result ℕ ℕ → Type 0
AnswersBy xs p r = IsBinarySearchResult (λ (y : Marker). place_cmp (where_is y) p) xs r

pub search_is : {F : Type 0} {g : Mut F (Bor Marker × Unit {0}) Place} {f : F} (xs : List Marker)
    (p : Place) (r : Result ℕ ℕ) → ((key : Marker → Place) → ComputesKey g key f
    → IsBinarySearchResult (λ (y : Marker). place_cmp (key y) p) xs r)
    → ((a : Bor Marker × Unit {0}) (s : Place) (f' : F) → Called g f a s f'
    → (s ≡ place_of a.0.now.key) × (f' ≡ f)) → AnswersBy xs p r
search_is {g = g} {f = f} xs p r h calls =
    h where_is (always_returns_same g (λ a s. s ≡ place_of a.0.now.key) f calls)

-- ---- keys, and the first index of one

axes : (a b : Axis) → Decides (axis_eq a b) (a ≡ b)
axes V V = (λ e. refl, λ e. refl)
axes V H = (λ e. absurd cc, λ e. absurd cc)
axes H V = (λ e. absurd cc, λ e. absurd cc)
axes H H = (λ e. refl, λ e. refl)

abbrev FieldsOfLine : Line → Line → Type 0
FieldsOfLine a b =
    ((a.rule ≡ b.rule) × (a.axis ≡ b.axis)) × ((a.side ≡ b.side) × ((a.x1 ≡ b.x1) × (a.x2 ≡ b.x2)))

lines : (a b : Line) → Decides (line_eq a b) (a ≡ b)
lines a b =
    Decides-like {P = FieldsOfLine a b} {Q = a ≡ b} (line_eq a b)
    (λ t. λ i. record {
      rule = t.0.0 i;
      axis = t.0.1 i;
      side = t.1.0 i;
      x1 = t.1.1.0 i;
      x2 = t.1.1.1 i;
    })
    (λ e. (
      (ap (λ (l : Line). l.rule) e, ap (λ (l : Line). l.axis) e),
      (ap (λ (l : Line). l.side) e, (ap (λ (l : Line). l.x1) e, ap (λ (l : Line). l.x2) e)),
    ))
    (Decides-and ((a.rule == b.rule) && axis_eq a.axis b.axis)
    ((a.side == b.side) && (int_eq a.x1 b.x1 && int_eq a.x2 b.x2))
    (Decides-and (a.rule == b.rule) (axis_eq a.axis b.axis) (Decides-eqb a.rule b.rule)
    (axes a.axis b.axis))
    (Decides-and (a.side == b.side) (int_eq a.x1 b.x1 && int_eq a.x2 b.x2)
    (Decides-eqb a.side b.side)
    (Decides-and (int_eq a.x1 b.x1) (int_eq a.x2 b.x2) (Decides-int_eq a.x1 b.x1)
    (Decides-int_eq a.x2 b.x2))))

pub keys : (k l : Key) → Decides (key_eq k l) (k ≡ l)
keys k l =
    Decides-like {P = (line_of_key k ≡ line_of_key l)
    × ((k.piece.y0 ≡ l.piece.y0) × (k.piece.y1 ≡ l.piece.y1))} {Q = k ≡ l}
    (key_eq k l)
    (λ t. same_key k l t.0 t.1.0 t.1.1)
    (λ e. (ap line_of_key e, (ap (λ (x : Key). x.piece.y0) e, ap (λ (x : Key). x.piece.y1) e)))
    (Decides-and (line_eq (line_of_key k) (line_of_key l)) (int_eq k.piece.y0 l.piece.y0
    && int_eq k.piece.y1 l.piece.y1)
    (lines (line_of_key k) (line_of_key l))
    (Decides-and (int_eq k.piece.y0 l.piece.y0) (int_eq k.piece.y1 l.piece.y1)
    (Decides-int_eq k.piece.y0 l.piece.y0)
    (Decides-int_eq k.piece.y1 l.piece.y1)))

other_key : (k l : Key) → (k ≡ l → ⊥) → key_eq k l ≡ false
other_key k l apart = go (key_eq k l) refl
  where
    go : (b : Bool) → key_eq k l ≡ b → b ≡ false
    go true e = absurd (apart ((keys k l).0 e))
    go false e = refl

abbrev has_key : Key → Marker → Bool
has_key key m = key_eq m.key key

-- the first index is the given one
placed : (book : List Marker) (key : Key) (i : ℕ) → i < length book
    → position_or_len (has_key key) book ≡ i → place_in book key ≡ Some i
placed book key i l e = ap (λ n. cond (nat_lt n (length book)) (Some n) None) e
    ∙ ap (λ b. cond b (Some i) None) ((Decides-ltb i (length book)).1 l)

unplaced : (book : List Marker) (key : Key) → position_or_len (has_key key) book ≡ length book
    → place_in book key ≡ None
unplaced book key e = ap (λ n. cond (nat_lt n (length book)) (Some n) None) e
    ∙ ap (λ b. cond b (Some (length book)) None) (no_less (length book))
  where
    no_less : (n : ℕ) → nat_lt n n ≡ false
    no_less n = go (nat_lt n n) refl
      where
        go : (b : Bool) → nat_lt n n ≡ b → b ≡ false
        go true e = absurd (omega (arith, (Decides-ltb n n).0 e))
        go false e = refl

-- the marker at a key's index has the key
pub place_is : (book : List Marker) (key : Key) (i : ℕ) → place_in book key ≡ Some i
    → (m : Marker) × (slice_get book i ≡ Some m) × (m.key ≡ key)
place_is book key i e =
    let found = position-Some (has_key key) book i no_marker e in (
      get_or book i no_marker,
      slice_get-get_or book i no_marker found.0,
      (keys (get_or book i no_marker).key key).0 found.1,
    )

-- ---- the search

-- of two markers of a book only one has the key
one_of_key : (book : List Marker) (m n : Marker) → IsBook book → Contains book m → Contains book n
    → m.key ≡ n.key → m ≡ n
one_of_key book m n h c d same =
    let first : m.key.piece.y0 ≡ n.key.piece.y0 = ap (λ (k : Key). k.piece.y0) same in
    let filled = All-contains IsFilled book m h.filled c in
    let other = All-contains IsFilled book n h.filled d in
    elim (alike book m n h c d (ap line_of_key same)) [
      | inl q ↦ q
      | inr (inl q) ↦ absurd (omega (arith, ints, q, first, filled))
      | inr (inr q) ↦ absurd (omega (arith, ints, q, first, other))
    ]

-- no marker before one of a book has its key
earlier : (book : List Marker) (i k : ℕ) → IsBook book → i < length book → k < i
    → (get_or book k no_marker).key ≡ (get_or book i no_marker).key → ⊥
earlier book i k h l before same =
    let m = get_or book k no_marker in
    let n = get_or book i no_marker in
    elim (h.ordered k i no_marker before l) [
      | inl less ↦
          let clash : Less ≡ Equal = sym less
          ∙ (ap (line_cmp (line_of m)) (sym (ap line_of_key same))
          ∙ tied_itself line_total (line_of m)) in
          cc
      | inr p ↦
          let first : m.key.piece.y0 ≡ n.key.piece.y0 = ap (λ (x : Key). x.piece.y0) same in
          let filled : IsFilled m = h.filled k no_marker (omega (arith, before, l)) in
          absurd (omega (arith, ints, p.1, first, filled))
    ]

pub place_ok : (book xs : List Marker) (key : Key) (p : Place) (i : ℕ) → xs ≡ book → IsBook book
    → p ≡ place_of key → i < length xs → AnswersBy xs p (Ok i) → Some i ≡ place_in book key
place_ok book xs key p i e h f l answer =
    sym (placed book key i inside (position_or_len_is (has_key key) book i no_marker
    (omega (arith, inside)) before here))
  where
    inside : i < length book
    inside = subst (λ (ys : List Marker). i < length ys) e l

    is : (get_or book i no_marker).key ≡ key
    is =
        let at : get_or xs i no_marker ≡ get_or book i no_marker =
        ap (λ (ys : List Marker). get_or ys i no_marker) e in
        key_tied (get_or book i no_marker).key key
        (subst (λ (y : Marker). place_cmp (where_is y) (place_of key) ≡ Equal) at
        (ap (place_cmp (where_is (get_or xs i no_marker))) (sym f) ∙ answer no_marker))

    before : (k : ℕ) → k < i → has_key key (get_or book k no_marker) ≡ false
    before k less = other_key (get_or book k no_marker).key key
        (λ same. earlier book i k h inside less (same ∙ sym is))

    here : i < length book → has_key key (get_or book i no_marker) ≡ true
    here within = (keys (get_or book i no_marker).key key).1 is

none_there : (book xs : List Marker) (key : Key) (p : Place) (i : ℕ) → xs ≡ book → IsBook book
    → p ≡ place_of key → AnswersBy xs p (Err i) → (m : Marker) → Contains book m → m.key ≡ key
    → ⊥
none_there book xs key p i e h f answer m c is =
    let split = answer (searchable_from_sorted place_total where_is xs p
    (subst (λ (ys : List Marker). IsSortedBy
    (λ x y. is_lt (place_cmp (where_is x) (where_is y))) ys) (sym e) (sorted book h))) in
    let d = subst (λ (ys : List Marker). Contains ys m) (sym e) c in
    let equal : place_cmp (where_is m) p ≡ Equal = ap (place_cmp (where_is m))
    (f ∙ ap place_of (sym is)) ∙ tied_itself place_total (where_is m) in
    elim (cases_lt d.0 i) [
      | inl l ↦
          let less : place_cmp (where_is m) p ≡ Less =
          subst (λ (y : Marker). place_cmp (where_is y) p ≡ Less) d.2
          (split.0 d.0 m (omega arith) l) in
          let clash : Less ≡ Equal = sym less ∙ equal in
          cc
      | inr l ↦
          let more : place_cmp (where_is m) p ≡ Greater =
          subst (λ (y : Marker). place_cmp (where_is y) p ≡ Greater) d.2
          (split.1 d.0 m l d.1) in
          let clash : Greater ≡ Equal = sym more ∙ equal in
          cc
    ]

pub place_none : (book xs : List Marker) (key : Key) (p : Place) (i : ℕ) → xs ≡ book → IsBook book
    → p ≡ place_of key → AnswersBy xs p (Err i) → None ≡ place_in book key
place_none book xs key p i e h f answer =
    sym (unplaced book key (position_or_len_is (has_key key) book (length book) no_marker
    (omega arith) all (λ l. absurd (omega (arith, l)))))
  where
    all : (k : ℕ) → k < length book → has_key key (get_or book k no_marker) ≡ false
    all k l =
        let m = get_or book k no_marker in
        other_key m.key key (λ is. none_there book xs key p i e h f answer m
        (k, l, get_or_from_slice_get book k m m (slice_get-get_or book k no_marker l)) is)

-- ---- the marker at the index

pub found_some : (book : List Marker) (key : Key) (place : ℕ) (o : Option Marker) → IsBook book
    → place_in book key ≡ Some place → o ≡ slice_get book place → (m : Marker)
    → (o ≡ Some m) ↔ (Contains book m × (m.key ≡ key))
found_some book key place o h e got m = (to, from)
  where
    is : (n : Marker) × (slice_get book place ≡ Some n) × (n.key ≡ key)
    is = place_is book key place e

    inside : Contains book is.0
    inside = let found = position-Some (has_key key) book place no_marker e in
        (place, found.0, get_or_from_slice_get book place is.0 is.0 is.1)

    to : o ≡ Some m → Contains book m × (m.key ≡ key)
    to s = let q : is.0 ≡ m = same_Some is.0 m (sym is.1 ∙ (sym got ∙ s)) in
        (subst (Contains book) q inside, sym ((λ i. (q i).key)) ∙ is.2)

    from : Contains book m × (m.key ≡ key) → o ≡ Some m
    from c = got ∙ (is.1 ∙ ap Some (one_of_key book is.0 m h inside c.0 (is.2 ∙ sym c.1)))

pub found_none : (book : List Marker) (key : Key) → place_in book key ≡ None → (m : Marker)
    → ◌≡◌ {A = Option Marker} None (Some m) ↔ (Contains book m × (m.key ≡ key))
found_none book key e m = (λ s. absurd (none-some m s), λ c. absurd (never c.0 c.1))
  where
    past : (b : Bool) → nat_lt (position_or_len (has_key key) book) (length book) ≡ b
        → cond b (Some (position_or_len (has_key key) book)) None ≡ None → b ≡ false
    past true is gone = absurd (none-some _ (sym gone))
    past false is gone = refl

    cases_past : (n l k : ℕ) → nat_lt n l ≡ false → k < l → k < n
    cases_past n l k e less = elim (cases_lt k n) [
      | inl q ↦ q
      | inr q ↦ absurd (true≢false (sym ((Decides-ltb n l).1 (omega (arith, q, less))) ∙ e))
    ]

    never : Contains book m → m.key ≡ key → ⊥
    never c is =
        let none = past (nat_lt (position_or_len (has_key key) book) (length book)) refl e in
        let fails = fails_before_first (has_key key) book c.0 m
        (cases_past (position_or_len (has_key key) book) (length book) c.0 none c.1) in
        true≢false (sym ((keys m.key key).1 is) ∙ (ap (has_key key) (sym c.2) ∙ fails))
