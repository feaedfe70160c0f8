-- The invariant of one row as the edges are processed from left to right.
use Rattle.std.proofs.Common.{◌≡◌, ◌≢◌, inl, inr, refl, sym, ◌∙◌, ap, ℕ, ◌+◌, ◌<◌, ◌≤◌, ◌≤ℤ◌, ◌<ℤ◌, ℤ, pos, Bool, true, false, not, ◌&&◌, ◌||◌, cond, arith, List, length, get_or, take, count_by}
use Rattle.std.specs.Prelude.{int_lt, int_le, ◌==◌}
use Rattle.std.proofs.lemmas.Int.{ints}
use Rattle.std.proofs.lemmas.List.{take_all, get_or-take, get_or_default, length-take}
use Rattle.std.proofs.lemmas.Bool.{cases_eq, eq-eqb, ne_eqb}
use Rattle.mpw_geom.specs.Plane.{Square}
use Rattle.mpw_geom.proofs.Tests.{test_from_le}
use Rattle.mpw_shapes.specs.declared.edge.Edge.{Edge}
use Rattle.mpw_shapes.specs.Internal.Edges.{rises_in, falls_in, rises_left, falls_left, edges_have, AreFromLeft, IsBalanced}
use Rattle.mpw_shapes.proofs.Columns.{filled, not_le_test, Passes, filled_opening, filled_staying, filled_closing}
use Rattle.mpw_shapes.proofs.Counts.{count_by_agree, count_by_next, cases_lt_z}

-- the square of the column in the row
abbrev pub at : ℤ → ℤ → Square
at c row = record { column = c; row = row }

-- the counts at a column of the row, among the first k edges
abbrev pub ups_at : List Edge → ℤ → ℕ → ℤ → ℕ
ups_at edges row k c = count_by (rises_left (at c row)) (take k edges)

abbrev pub downs_at : List Edge → ℤ → ℕ → ℤ → ℕ
downs_at edges row k c = count_by (falls_left (at c row)) (take k edges)

-- k edges were processed, `ups` up and `downs` down across the row; `has` are the columns of its squares in boxes: all so far,
-- except those from `start` on where the counts differ
pub record Swept (edges : List Edge) (row : ℤ) (k : ℕ) (ups downs : ℕ) (start : ℤ) (has : ℤ
    → Bool) : Type 0 where
  pub up : ups ≡ count_by (rises_in row) (take k edges)
  pub down : downs ≡ count_by (falls_in row) (take k edges)
  pub squares : (c : ℤ) → has c ≡ filled (ups_at edges row k c) (downs_at edges row k c) ups downs c
      start
  pub inside : (c : ℤ) → ups ≢ downs → start ≤ℤ c
      → not (ups_at edges row k c == downs_at edges row k c) ≡ true
  pub begun : (m : ℕ) (d : Edge) → ups ≢ downs → k ≤ m → m < length edges
      → start ≤ℤ (get_or edges m d).x

-- left of the edge nothing changes; from the edge on every edge so far counts
at_edge : (edges : List Edge) (row : ℤ) (k : ℕ) (d : Edge) (c : ℤ) → AreFromLeft edges
    → k < length edges → (get_or edges k d).x ≤ℤ c
    → (p : ℤ → Edge → Bool) (q : Square → Edge → Bool)
    → ((e : Edge) → e.x ≤ℤ c → q (at c row) e ≡ p row e) → (n : ℕ) → n ≤ k + 1
    → count_by (q (at c row)) (take n edges) ≡ count_by (p row) (take n edges)
at_edge edges row k d c sorted h le p q agree n nk =
    count_by_agree (q (at c row)) (p row) (take n edges) (λ i e l.
    let m : i < n = omega (arith, length-take n edges) in
    let o : i < length edges = omega (arith, length-take n edges) in
    let same = get_or-take n edges i e m ∙ get_or_default edges i e d o in
    let le' : (get_or edges i d).x ≤ℤ c = omega (arith, ints, sorted i k d (omega arith) h) in
    rw same (agree (get_or edges i d) le'))

pub rises_left_at : (s : Square) (e : Edge) → e.x ≤ℤ s.column → rises_left s e ≡ rises_in s.row e
unfolding rises_left
rises_left_at s e h = rw (test_from_le e.x s.column h)

pub falls_left_at : (s : Square) (e : Edge) → e.x ≤ℤ s.column → falls_left s e ≡ falls_in s.row e
unfolding falls_left
falls_left_at s e h = rw (test_from_le e.x s.column h)

rises_right_of : (s : Square) (e : Edge) → s.column <ℤ e.x → rises_left s e ≡ false
unfolding rises_left
rises_right_of s e h = rw (not_le_test e.x s.column h)

falls_right_of : (s : Square) (e : Edge) → s.column <ℤ e.x → falls_left s e ≡ false
unfolding falls_left
falls_right_of s e h = rw (not_le_test e.x s.column h)

-- the hypotheses of the step lemmas of a column
passes : (edges : List Edge) (row : ℤ) (k : ℕ) (d : Edge) (c : ℤ) (ups downs ups' downs' : ℕ)
    → AreFromLeft edges → k < length edges → ups ≡ count_by (rises_in row) (take k edges)
    → downs ≡ count_by (falls_in row) (take k edges)
    → ups' ≡ count_by (rises_in row) (take (k + 1) edges)
    → downs' ≡ count_by (falls_in row) (take (k + 1) edges)
    → Passes (ups_at edges row k c) (downs_at edges row k c) (ups_at edges row (k + 1) c)
    (downs_at edges row (k + 1) c) ups downs ups' downs' (get_or edges k d).x c
passes edges row k d c ups downs ups' downs' sorted h u v u' v' = record {
  left_up = λ lt. count_by_next (rises_left (at c row)) edges k d h
      ∙ rw (rises_right_of (at c row) (get_or edges k d) lt) (omega arith);
  left_down = λ lt. count_by_next (falls_left (at c row)) edges k d h
      ∙ rw (falls_right_of (at c row) (get_or edges k d) lt) (omega arith);
  up = λ le. at_edge edges row k d c sorted h le rises_in rises_left
      (λ e. rises_left_at (at c row) e) k (omega arith) ∙ sym u;
  down = λ le. at_edge edges row k d c sorted h le falls_in falls_left
      (λ e. falls_left_at (at c row) e) k (omega arith) ∙ sym v;
  up' = λ le. at_edge edges row k d c sorted h le rises_in rises_left
      (λ e. rises_left_at (at c row) e) (k + 1) (omega arith) ∙ sym u';
  down' = λ le. at_edge edges row k d c sorted h le falls_in falls_left
      (λ e. falls_left_at (at c row) e) (k + 1) (omega arith) ∙ sym v';
}

and_nothing : (b : Bool) → (b && false) ≡ false
and_nothing true = refl
and_nothing false = refl

pub swept_none : (edges : List Edge) (row start : ℤ) (has : ℤ → Bool) → ((c : ℤ) → has c ≡ false)
    → Swept edges row 0 0 0 start has
swept_none edges row start has none = record {
  up = refl;
  down = refl;
  squares = none;
  inside = λ c n _. absurd (n refl);
  begun = λ m d n _ _. absurd (n refl);
}

-- an edge that doesn't cross the row
pub swept_past : (edges : List Edge) (row : ℤ) (k : ℕ) (d : Edge) (ups downs : ℕ) (start : ℤ)
    (has has' : ℤ → Bool) → Swept edges row k ups downs start has → k < length edges
    → rises_in row (get_or edges k d) ≡ false → falls_in row (get_or edges k d) ≡ false
    → ((c : ℤ) → has' c ≡ has c) → Swept edges row (k + 1) ups downs start has'
unfolding rises_left falls_left
swept_past edges row k d ups downs start has has' w h r f same =
    let same_up : (c : ℤ) → ups_at edges row (k + 1) c ≡ ups_at edges row k c =
    λ c. count_by_next (rises_left (at c row)) edges k d h
    ∙ rw (r, and_nothing (int_le (get_or edges k d).x c)) (omega arith) in
    let same_down : (c : ℤ) → downs_at edges row (k + 1) c ≡ downs_at edges row k c =
    λ c. count_by_next (falls_left (at c row)) edges k d h
    ∙ rw (f, and_nothing (int_le (get_or edges k d).x c)) (omega arith) in
    record {
      up = w.up ∙ sym (count_by_next (rises_in row) edges k d h ∙ rw r (omega arith));
      down = w.down ∙ sym (count_by_next (falls_in row) edges k d h ∙ rw f (omega arith));
      squares = λ c. same c ∙ rw (same_up c, same_down c) (w.squares c);
      inside = λ c n le. rw (same_up c, same_down c) (w.inside c n le);
      begun = λ m e n le lt. w.begun m e n (omega arith) lt;
    }

-- an edge that crosses the row: the counts and the start after it
pub record Crosses (edges : List Edge) (row : ℤ) (k : ℕ) (d : Edge) (ups downs : ℕ) (start : ℤ)
    (ups' downs' : ℕ) (start' : ℤ) : Type 0 where
  pub up : rises_in row (get_or edges k d) ≡ (get_or edges k d).is_up
  pub down : falls_in row (get_or edges k d) ≡ not (get_or edges k d).is_up
  pub more_up : ups' ≡ ups + cond (get_or edges k d).is_up 1 0
  pub more_down : downs' ≡ downs + cond (get_or edges k d).is_up 0 1
  pub begins : ups' ≢ downs' → start' ≡ cond (ups == downs) (get_or edges k d).x start

cond_not : (b : Bool) → ◌≡◌ {A = ℕ} (cond b 0 1) (cond (not b) 1 0)
cond_not true = refl
cond_not false = refl

uneven : (b : Bool) → ◌≡◌ {A = ℕ} (cond b 1 0) (cond b 0 1) → ⊥
uneven true h = omega (arith, h)
uneven false h = omega (arith, h)

module _ (edges : List Edge) (row : ℤ) (k : ℕ) (d : Edge) (ups downs : ℕ) (start : ℤ) (has has' : ℤ
    → Bool) (ups' downs' : ℕ) (start' : ℤ) (w : Swept edges row k ups downs start has)
    (sorted : AreFromLeft edges) (h : k < length edges)
    (z : Crosses edges row k d ups downs start ups' downs' start') where
  next_up : ups' ≡ count_by (rises_in row) (take (k + 1) edges)
  next_up = z.more_up ∙ rw (w.up, ← z.up) (sym (count_by_next (rises_in row) edges k d h))

  next_down : downs' ≡ count_by (falls_in row) (take (k + 1) edges)
  next_down = z.more_down ∙ rw (w.down, cond_not (get_or edges k d).is_up, ← z.down)
      (sym (count_by_next (falls_in row) edges k d h))

  next_passes : (c : ℤ) → Passes (ups_at edges row k c) (downs_at edges row k c)
      (ups_at edges row (k + 1) c) (downs_at edges row (k + 1) c) ups downs ups' downs'
      (get_or edges k d).x c
  next_passes c = passes edges row k d c ups downs ups' downs' sorted h w.up w.down next_up
      next_down

  -- if the edge begins squares
  next_opening : ups' ≢ downs' → ups ≡ downs → start' ≡ (get_or edges k d).x
  next_opening n e = z.begins n ∙ rw (eq-eqb ups downs e)

  next_staying : ups' ≢ downs' → ups ≢ downs → start' ≡ start
  next_staying n m = z.begins n ∙ rw (ne_eqb ups downs m)

  next_inside : (c : ℤ) → ups' ≢ downs' → start' ≤ℤ c
      → not (ups_at edges row (k + 1) c == downs_at edges row (k + 1) c) ≡ true
  next_inside c n le =
      let p = next_passes c in
      elim (cases_lt_z c (get_or edges k d).x) [
        | inr right ↦ rw (p.up' right, p.down' right, ne_eqb ups' downs' n)
        | inl left ↦
            elim (cases_eq ups downs) [
              | inl e ↦ absurd (let f = next_opening n e in omega (arith, ints))
              | inr m ↦ rw (p.left_up left, p.left_down left)
                  (w.inside c m (rw (next_staying n m) at le))
            ]
      ]

  next_begun : (m : ℕ) (e : Edge) → ups' ≢ downs' → k + 1 ≤ m → m < length edges
      → start' ≤ℤ (get_or edges m e).x
  next_begun m e n le lt =
      elim (cases_eq ups downs) [
        | inl same ↦ rw (next_opening n same)
            (rw (get_or_default edges k d e h) (sorted k m e (omega arith) lt))
        | inr o ↦ rw (next_staying n o) (w.begun m e o (omega arith) lt)
      ]

  pub swept_next : ups' ≢ downs' → ((c : ℤ) → has' c ≡ has c)
      → Swept edges row (k + 1) ups' downs' start' has'
  swept_next n same = record {
    up = next_up;
    down = next_down;
    squares = λ c.
        elim (cases_eq ups downs) [
          | inl e ↦ same c ∙ w.squares c ∙ sym (rw (next_opening n e)
              (filled_opening _ _ _ _ _ _ _ _ _ _ start (next_passes c) e n))
          | inr m ↦ same c ∙ w.squares c ∙ sym (rw (next_staying n m)
              (filled_staying _ _ _ _ _ _ _ _ _ _ start (next_passes c) m n
              (w.begun k d m (omega arith) h)))
        ];
    inside = next_inside;
    begun = next_begun;
  }

  pub swept_closed : ups' ≡ downs' → ((c : ℤ)
      → has' c ≡ (has c || (int_le start c && int_lt c (get_or edges k d).x)))
      → Swept edges row (k + 1) ups' downs' start' has'
  swept_closed e added =
      let m : ups ≢ downs = λ same. uneven (get_or edges k d).is_up
      (omega (arith, z.more_up, z.more_down)) in
      record {
        up = next_up;
        down = next_down;
        squares = λ c.
            added c
            ∙ ap (λ (b : Bool). b || (int_le start c && int_lt c (get_or edges k d).x))
            (w.squares c)
            ∙ sym (filled_closing _ _ _ _ _ _ _ _ _ _ start start' (next_passes c) m e
            (w.begun k d m (omega arith) h) (λ le. w.inside c m le));
        inside = λ c n _. absurd (n e);
        begun = λ m' e' n _ _. absurd (n e);
      }

and_all : (b : Bool) → (b && true) ≡ b
and_all true = refl
and_all false = refl

-- all edges were processed
pub swept_all : (edges : List Edge) (row : ℤ) (ups downs : ℕ) (start : ℤ) (has : ℤ → Bool)
    → Swept edges row (length edges) ups downs start has → IsBalanced edges row → (c : ℤ)
    → has c ≡ edges_have edges (at c row)
unfolding edges_have
swept_all edges row ups downs start has w balanced c =
    let whole : take (length edges) edges ≡ edges = take_all (length edges) edges (omega arith) in
    let up : ups ≡ count_by (rises_in row) edges = rw whole at w.up in
    let down : downs ≡ count_by (falls_in row) edges = rw whole at w.down in
    let even : ups ≡ downs = up ∙ balanced ∙ sym down in
    w.squares c ∙ rw (
      whole,
      eq-eqb ups downs even,
      and_all (not (count_by (rises_left (at c row)) edges == count_by (falls_left (at c row))
          edges)),
    )

-- the default of an array of edges past its end
abbrev pub no_edge : Edge
no_edge = record { x = pos 0; low = pos 0; high = pos 0; is_up = false }
