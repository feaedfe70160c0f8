-- The order of lines and of markers.
use Rattle.std.proofs.Common.{◌≡◌, ◌&&◌, [], ◌∷◌, Bool, true, eqb, int_eq, ℕ, ℤ, ◌<ℤ◌, ◌+◌, zero, suc, add-zero, ◌<◌, false, List, length, get_or, drop, sym, refl, ap, ◌∙◌, subst, inl, inr, arith}
use Rattle.std.specs.Prelude.{Contains, ◌↔◌}
use Rattle.std.proofs.lemmas.Int.{ints}
use Rattle.std.specs.Cmp.{IsTotalOrder}
use Rattle.std.specs.Ordering.{nat_cmp, int_cmp, ordering_then, is_lt, ordering_reverse}
use Rattle.std.specs.List.Sorted.{IsSortedByKey}
use Rattle.std.specs.declared.cmp.Ordering.{Ordering}
use Rattle.std.specs.declared.cmp.Ordering.TheVariants.{Less, Equal}
use Rattle.std.proofs.lemmas.Cmp.{then_total, on_total, nat_cmp_total, int_cmp_total}
use Rattle.std.proofs.lemmas.List.{get_or-drop, get_or-map, length-drop}
use Rattle.std.proofs.lemmas.List.Sorted.{sorted_far, ranks_by}
use Rattle.std.proofs.lemmas.Map.Lookups.{exact_unsigned, exact_signed}
use Rattle.std.specs.Fn.{Called, ComputesKey}
use Rattle.std.proofs.lemmas.Fn.{always_returns_same}
use Rattle.std.proofs.lemmas.Bool.{and_parts, and_from, eqb-true, eq-eqb}
use denote.Enum.Bare.{sameb, same_true, true_same}
use denote.Param.Members.{Mut}
use denote.Ref.{Bor}
use Rattle.mpw_edges.specs.contracts.run.Axis.{the_type}
use Rattle.mpw_edges.specs.declared.run.Axis.{Axis}
use Rattle.mpw_edges.specs.declared.run.Axis.TheVariants.{V, H}
use Rattle.mpw_edges.specs.Pieces.{axis_cmp}
use Rattle.mpw_region.proofs.Held.{place_of as held_at}
use Rattle.mpw_region.proofs.Orderings.{then_first, then_second, then_not_less, first_not_less, not_after, reversed, before_itself, chain}
use Rattle.mpw_markers.specs.declared.marker.Line.{Line}
use Rattle.mpw_markers.specs.declared.marker.Marker.{Marker}
use Rattle.mpw_markers.specs.declared.place.LinePlace.{LinePlace}
use Rattle.mpw_markers.specs.declared.place.Place.{Place}
use Rattle.mpw_markers.specs.Markers.{line_of, IsFilled}
use Rattle.mpw_markers.specs.Internal.Places.{axis_place, line_place, place_of}
use Rattle.mpw_markers.specs.Order.{line_cmp, StandsBefore}
use Rattle.mpw_markers.specs.Internal.Order.{BeginsFirst, AreInOrder}
use Rattle.mpw_markers.proofs.Referred.{seen, many}

axis_total : IsTotalOrder axis_cmp
axis_total = record { antisymm = back; trans = chain; congr = alike }
  where
    back : (a b : Axis) → axis_cmp a b ≡ ordering_reverse (axis_cmp b a)
    back V V = refl
    back V H = refl
    back H V = refl
    back H H = refl

    chain : (a b c : Axis) → axis_cmp a b ≡ Less → axis_cmp b c ≡ Less → axis_cmp a c ≡ Less
    chain V V c e f = cc
    chain V H V e f = cc
    chain V H H e f = cc
    chain H V c e f = cc
    chain H H c e f = cc

    alike : (a b c : Axis) → axis_cmp a b ≡ Equal → axis_cmp a c ≡ axis_cmp b c
    alike V V c e = refl
    alike V H c e = cc
    alike H V c e = cc
    alike H H c e = refl

axis_tied : (a b : Axis) → axis_cmp a b ≡ Equal → a ≡ b
axis_tied V V e = refl
axis_tied V H e = cc
axis_tied H V e = cc
axis_tied H H e = refl

pub line_total : IsTotalOrder line_cmp
line_total =
    then_total (on_total (λ l. l.rule) nat_cmp_total)
    (then_total (on_total (λ l. l.axis) axis_total)
    (then_total (on_total (λ l. l.side) nat_cmp_total)
    (then_total (on_total (λ l. l.x1) int_cmp_total) (on_total (λ l. l.x2) int_cmp_total))))

same_line : (a b : Line) → a.rule ≡ b.rule → a.axis ≡ b.axis → a.side ≡ b.side → a.x1 ≡ b.x1
    → a.x2 ≡ b.x2 → a ≡ b
same_line a b e f g h k =
    ap (λ (p : ℕ × Axis × ℕ × ℤ × ℤ). let l : Line = record {
      rule = p.0;
      axis = p.1;
      side = p.2;
      x1 = p.3;
      x2 = p.4;
    } in l) (let q :
    (let r : ℕ × Axis × ℕ × ℤ × ℤ = (a.rule, a.axis, a.side, a.x1, a.x2) in r)
    ≡ (b.rule, b.axis, b.side, b.x1, b.x2) = cc in q)

-- lines that compare as equal are equal
pub line_tied : (a b : Line) → line_cmp a b ≡ Equal → a ≡ b
line_tied a b e =
    let rest = then_second (nat_cmp a.rule b.rule) _ e in
    let more = then_second (axis_cmp a.axis b.axis) _ rest in
    let last = then_second (nat_cmp a.side b.side) _ more in
    same_line a b
    (exact_unsigned _ _ (then_first (nat_cmp a.rule b.rule) _ e))
    (axis_tied _ _ (then_first (axis_cmp a.axis b.axis) _ rest))
    (exact_unsigned _ _ (then_first (nat_cmp a.side b.side) _ more))
    (exact_signed _ _ (then_first (int_cmp a.x1 b.x1) _ last))
    (exact_signed _ _ (then_second (int_cmp a.x1 b.x1) _ last))

-- no line comes before itself
pub line_before : (a b : Line) → line_cmp a b ≡ Less → a ≡ b → ⊥
line_before = before_itself line_cmp line_total

-- on one line, the first ends before the other begins
pub apart : (m n : Marker) → StandsBefore m n → line_of m ≡ line_of n
    → m.key.piece.y1 <ℤ n.key.piece.y0
apart m n (inl less) e = absurd (line_before (line_of m) (line_of n) less e)
apart m n (inr stands) e = stands.1

-- ---- what a sort guarantees

abbrev pub line_place_cmp : LinePlace → LinePlace → Ordering
line_place_cmp a b =
    ordering_then (nat_cmp a.rule b.rule)
    (ordering_then (nat_cmp a.axis b.axis)
    (ordering_then (nat_cmp a.side b.side)
    (ordering_then (int_cmp a.x1 b.x1) (int_cmp a.x2 b.x2))))

abbrev pub place_cmp : Place → Place → Ordering
place_cmp p q = ordering_then (line_place_cmp p.line q.line)
    (ordering_then (int_cmp p.y0 q.y0) (int_cmp p.y1 q.y1))

line_place_total : IsTotalOrder line_place_cmp
line_place_total =
    then_total (on_total (λ l. l.rule) nat_cmp_total)
    (then_total (on_total (λ l. l.axis) nat_cmp_total)
    (then_total (on_total (λ l. l.side) nat_cmp_total)
    (then_total (on_total (λ l. l.x1) int_cmp_total) (on_total (λ l. l.x2) int_cmp_total))))

pub place_total : IsTotalOrder place_cmp
place_total = then_total (on_total (λ p. p.line) line_place_total)
    (then_total (on_total (λ p. p.y0) int_cmp_total) (on_total (λ p. p.y1) int_cmp_total))

axes_alike : (a b : Axis) → nat_cmp (axis_place a) (axis_place b) ≡ axis_cmp a b
axes_alike V V = refl
axes_alike V H = refl
axes_alike H V = refl
axes_alike H H = refl

pub lines_alike : (a b : Line) → line_place_cmp (line_place a) (line_place b) ≡ line_cmp a b
lines_alike a b =
    ap (λ (o : Ordering). ordering_then (nat_cmp a.rule b.rule)
    (ordering_then o (ordering_then (nat_cmp a.side b.side)
    (ordering_then (int_cmp a.x1 b.x1) (int_cmp a.x2 b.x2))))) (axes_alike a.axis b.axis)

-- what a sort guarantees for two positions
begins_from_sort : (m n : Marker) → is_lt (place_cmp (place_of n.key) (place_of m.key))
    ≡ false → BeginsFirst m n
begins_from_sort m n e =
    elim (then_not_less (line_place_cmp (line_place (line_of n)) (line_place (line_of m))) _ e) [
      | inl g ↦ inl (reversed _ (sym (line_total.antisymm (line_of n) (line_of m))
          ∙ sym (lines_alike (line_of n) (line_of m)) ∙ g))
      | inr h ↦ inr (
        sym (line_tied _ _ (sym (lines_alike (line_of n) (line_of m)) ∙ h.0)),
        not_after _ _ (first_not_less _ _ h.1),
      )
    ]

-- for markers that are referred to
pub AreInOrder-from_sort : (xs : List (Bor Marker))
    → IsSortedByKey (λ m. place_of m.now.key) place_cmp xs → AreInOrder (seen xs)
AreInOrder-from_sort [] h i j d l b = absurd (omega (arith, b))
AreInOrder-from_sort (x ∷ xs) h i j d l b =
    let ms : List (Bor Marker) = x ∷ xs in
    let last : j < length ms = subst (λ n. j < n) (many ms) b in
    let now : Bor Marker → Marker = λ m. m.now in
    rw (get_or-map now ms i x d (omega (arith, l, last)), get_or-map now ms j x d last)
    (begins_from_sort (get_or ms i x).now (get_or ms j x).now
    (sorted_far (λ m n. is_lt (place_cmp (place_of m.now.key) (place_of n.now.key)))
    (ranks_by place_total (λ (m : Bor Marker). place_of m.now.key)) ms h i j x (omega arith)
    last))

-- by the clause of the sort
pub AreInOrder-from_sort_by_key : {F : Type 0} {g : Mut F (Bor (Bor Marker) × Unit {0}) Place}
    {f : F} (xs : List (Bor Marker)) → ((key : Bor Marker → Place) → ComputesKey g key f
    → IsSortedByKey key place_cmp xs) → ((a : Bor (Bor Marker) × Unit {0}) (r : Place) (f' : F)
    → Called g f a r f' → (r ≡ place_of a.0.now.now.key) × (f' ≡ f)) → AreInOrder (seen xs)
AreInOrder-from_sort_by_key {g = g} {f = f} xs up h =
    AreInOrder-from_sort xs (up (λ m. place_of m.now.key)
    (always_returns_same g (λ a r. r ≡ place_of a.0.now.now.key) f h))

pub BeginsFirst-chain : (m n o : Marker) → BeginsFirst m n → BeginsFirst n o → BeginsFirst m o
BeginsFirst-chain m n o p q =
    chain line_cmp line_total (line_of m) (line_of n) (line_of o) (λ e f. omega (arith, ints, e, f))
    p q

pub StandsBefore-chain : (m n o : Marker) → IsFilled n → StandsBefore m n → StandsBefore n o
    → StandsBefore m o
StandsBefore-chain m n o f p q =
    chain line_cmp line_total (line_of m) (line_of n) (line_of o)
    (λ e g. omega (arith, ints, e, g, f)) p q

pub StandsBefore-begins : (m n o : Marker) → StandsBefore m n → BeginsFirst n o → StandsBefore m o
StandsBefore-begins m n o p q =
    chain line_cmp line_total (line_of m) (line_of n) (line_of o) (λ e g. omega (arith, ints, e, g))
    p q

pub begins_itself : (m : Marker) → BeginsFirst m m
begins_itself m = inr (refl, omega (arith, ints))

-- what is left of a sorted list from an index on is sorted
pub AreInOrder-drop : (i : ℕ) (xs : List Marker) → AreInOrder xs → AreInOrder (drop i xs)
AreInOrder-drop i xs h j k d l b =
    subst (λ (m : Marker). BeginsFirst m (get_or (drop i xs) k d)) (sym (get_or-drop i xs j d))
    (subst (λ (m : Marker). BeginsFirst (get_or xs (i + j) d) m) (sym (get_or-drop i xs k d))
    (h (i + j) (i + k) d (omega arith) (omega (arith, b, length-drop i xs))))

-- the entries of a sorted list from an index on begin no earlier than the entry at that index
pub behind : (xs : List Marker) (i : ℕ) (d m : Marker) → AreInOrder xs → Contains (drop i xs) m
    → BeginsFirst (get_or xs i d) m
behind xs i d m h c =
    let p = held_at (drop i xs) d m c in
    let far : get_or xs (i + p.0) d ≡ m = sym (get_or-drop i xs p.0 d) ∙ p.2 in
    let inside : i + p.0 < length xs = omega (arith, p.1, length-drop i xs) in
    at p.0 far inside
  where
    at : (k : ℕ) → get_or xs (i + k) d ≡ m → i + k < length xs → BeginsFirst (get_or xs i d) m
    at zero e l = subst (λ (n : Marker). BeginsFirst (get_or xs i d) n)
        (let f : get_or xs i d ≡ m = rw add-zero at e in f) (begins_itself (get_or xs i d))
    at (suc k) e l = subst (λ (n : Marker). BeginsFirst (get_or xs i d) n) e
        (h i (i + suc k) d (omega arith) l)

same_int : (x y : ℤ) → int_eq x y ≡ true → x ≡ y
same_int x y h = grind (arith, ints)

int_same : (x y : ℤ) → x ≡ y → int_eq x y ≡ true
int_same x y h = grind (arith, ints)

-- the meaning of the derived test of two lines
pub same_lines_test : (a b : Line) (t : Bool)
    → t ≡ (eqb a.rule b.rule && (sameb the_type a.axis b.axis
    && (eqb a.side b.side && (int_eq a.x1 b.x1 && int_eq a.x2 b.x2)))) → (t ≡ true) ↔ (a ≡ b)
same_lines_test a b t e = (to, from)
  where
    to : t ≡ true → a ≡ b
    to h =
        let p = and_parts _ _ (sym e ∙ h) in
        let q = and_parts _ _ p.1 in
        let r = and_parts _ _ q.1 in
        let s = and_parts _ _ r.1 in
        same_line a b (eqb-true _ _ p.0) (same_true the_type tt _ _ q.0) (eqb-true _ _ r.0)
        (same_int _ _ s.0) (same_int _ _ s.1)

    from : a ≡ b → t ≡ true
    from h =
        e
        ∙ and_from _ _ (eq-eqb _ _ (ap (λ (l : Line). l.rule) h))
        (and_from _ _ (true_same the_type _ _ (ap (λ (l : Line). l.axis) h))
        (and_from _ _ (eq-eqb _ _ (ap (λ (l : Line). l.side) h))
        (and_from _ _ (int_same _ _ (ap (λ (l : Line). l.x1) h))
        (int_same _ _ (ap (λ (l : Line). l.x2) h)))))
