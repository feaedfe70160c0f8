-- The edges of a closed boundary as a whole.
use Rattle.std.proofs.Common.{◌≡◌, ◌⊎◌, inl, inr, refl, sym, ◌∙◌, ℕ, ◌+◌, ◌-◌, ◌<◌, ◌≤ℤ◌, ◌<ℤ◌, ℤ, pos, ◌-ℤ◌, false, not, ◌&&◌, cond, arith, List, [], ◌∷◌, ◌++◌, length, get_or, All, Contains, count_by}
use Rattle.std.specs.Prelude.{int_lt, int_le, ◌==◌}
use Rattle.std.specs.Int.{int_max}
use Rattle.std.specs.Ordering.{int_eq}
use Rattle.std.proofs.lemmas.Int.{ints, clamps}
use Rattle.std.proofs.lemmas.Bool.{cases_lt, eqb-true, eq-eqb, false_from_ne_true, and_parts}
use Rattle.std.proofs.lemmas.Bool.Decides.{Decides-int_eq}
use Rattle.std.proofs.lemmas.List.{get_or_default}
use Rattle.std.proofs.lemmas.List.Sums.{sum_by-cons}
use Rattle.std.proofs.lemmas.List.Elements.{All-nil, All-cons, All-head, All-tail, All-append, All-weaker}
use Rattle.mpw_geom.specs.declared.plane.Point.{Point}
use Rattle.mpw_geom.specs.Plane.{Square}
use Rattle.mpw_geom.proofs.Tests.{le_from_test, test_from_le, lt_from_test, test_from_lt, same_tests}
use Rattle.mpw_shapes.specs.declared.edge.Edge.{Edge}
use Rattle.mpw_shapes.specs.Boundary.{count_steps, rises_across, upward, downward, winding, boundary_has}
use Rattle.mpw_shapes.specs.Internal.Edges.{HasEndsAmong, rises_in, falls_in, rises_left, falls_left, edges_have, AreFromBelow, AreClear, IsBalanced, is_between}
use Rattle.mpw_shapes.proofs.Chains.{last_of, last_of_push}
use Rattle.mpw_shapes.proofs.Columns.{not_lt_test, not_le_test}
use Rattle.mpw_shapes.proofs.Counts.{cases_lt_z, count_by_agree}
use Rattle.mpw_shapes.proofs.Swept.{at, rises_left_at, falls_left_at}

-- some number is at least as large as each of a list
pub a_bound : {X : Type 0} (f : X → ℤ) (xs : List X) → (c : ℤ) × All (λ x. f x ≤ℤ c) xs
a_bound f [] = (pos 0, All-nil (λ x. f x ≤ℤ pos 0))
a_bound f (x ∷ xs) =
    let rest = a_bound f xs in
    let c = int_max (f x) rest.0 in (
      c,
      All-cons (λ x. f x ≤ℤ c) x xs (omega (arith, ints, clamps))
          (All-weaker (λ x. f x ≤ℤ rest.0) (λ x. f x ≤ℤ c) (λ y h. omega (arith, ints, clamps)) xs
          rest.1),
    )

-- one if a point lies above the row
abbrev above : ℤ → Point → ℕ
above row p = cond (int_lt row p.y) 1 0

step_even : (s : Square) (p q : Point) → p.x ≤ℤ s.column → q.x ≤ℤ s.column
    → cond (rises_across s p q) 1 0 + above s.row p ≡ cond (rises_across s q p) 1 0 + above s.row q
unfolding rises_across
step_even s p q u v = grind (arith, ints, u, v)

chain_even : (s : Square) (p : Point) (ps : List Point) → p.x ≤ℤ s.column
    → All (λ (q : Point). q.x ≤ℤ s.column) ps
    → count_steps (λ p q. rises_across s p q) (p ∷ ps) + above s.row p ≡ count_steps
    (λ p q. rises_across s q p) (p ∷ ps) + above s.row (last_of p ps)
unfolding count_steps
chain_even s p [] u h = refl
chain_even s p (q ∷ ps) u h =
    let v = All-head (λ (q : Point). q.x ≤ℤ s.column) q ps h in
    let rest = chain_even s q ps v (All-tail (λ (q : Point). q.x ≤ℤ s.column) q ps h) in
    omega (arith, rest, step_even s p q u v)

-- right of all corners as many edges go up as down
pub right_of_all : (corners : List Point) (s : Square)
    → All (λ (q : Point). q.x ≤ℤ s.column) corners → upward corners s ≡ downward corners s
unfolding upward downward count_steps
right_of_all [] s h = refl
right_of_all (p ∷ ps) s h =
    let u = All-head (λ (q : Point). q.x ≤ℤ s.column) p ps h in
    let rest = All-append (λ (q : Point). q.x ≤ℤ s.column) ps (p ∷ [])
    (All-tail (λ (q : Point). q.x ≤ℤ s.column) p ps h)
    (All-cons (λ (q : Point). q.x ≤ℤ s.column) p [] u
    (All-nil (λ (q : Point). q.x ≤ℤ s.column))) in
    let even = chain_even s p (ps ++ p ∷ []) u rest in
    omega (arith, rw (last_of_push p ps p) at even)

pub balanced : (corners : List Point) (edges : List Edge) (row : ℤ)
    → ((s : Square) → count_by (rises_left s) edges ≡ upward corners s)
    → ((s : Square) → count_by (falls_left s) edges ≡ downward corners s) → IsBalanced edges row
balanced corners edges row up down =
    let a = a_bound (λ (p : Point). p.x) corners in
    let b = a_bound (λ (e : Edge). e.x) edges in
    let c = int_max a.0 b.0 in
    let s = at c row in
    let right = right_of_all corners s
    (All-weaker (λ (p : Point). p.x ≤ℤ a.0) (λ (p : Point). p.x ≤ℤ c)
    (λ y h. omega (arith, ints, clamps)) corners a.1) in
    let left : All (λ (e : Edge). e.x ≤ℤ c) edges = All-weaker (λ (e : Edge). e.x ≤ℤ b.0)
    (λ (e : Edge). e.x ≤ℤ c) (λ y h. omega (arith, ints, clamps)) edges b.1 in
    sym (count_by_agree (rises_left s) (rises_in row) edges
    (λ i d l. rises_left_at s (get_or edges i d) (left i d l)))
    ∙ up s
    ∙ right
    ∙ sym (down s)
    ∙ count_by_agree (falls_left s) (falls_in row) edges
    (λ i d l. falls_left_at s (get_or edges i d) (left i d l))

-- each row's height lies in no gap between rows, and not outside of all
row_read : (rows : List ℤ) (z : ℤ) (has : Contains rows z) → get_or rows has.0 (pos 0) ≡ z
row_read rows z has = get_or_default rows has.0 (pos 0) z has.1 ∙ has.2

outside_gap : (rows : List ℤ) (k : ℕ) (z : ℤ) → AreFromBelow rows → k + 1 < length rows
    → Contains rows z → (z ≤ℤ get_or rows k (pos 0)) ⊎ (get_or rows (k + 1) (pos 0) ≤ℤ z)
outside_gap rows k z sorted h has =
    elim (cases_lt k has.0) [
      | inl lt ↦ inr (rw (row_read rows z has) at
          (sorted (k + 1) has.0 (pos 0) (omega arith) has.1))
      | inr ge ↦ inl (rw (row_read rows z has) at (sorted has.0 k (pos 0) ge (omega arith)))
    ]

above_first : (rows : List ℤ) (z : ℤ) → AreFromBelow rows → Contains rows z
    → get_or rows 0 (pos 0) ≤ℤ z
above_first rows z sorted has =
    rw (row_read rows z has) at (sorted 0 has.0 (pos 0) (omega arith) has.1)

below_last : (rows : List ℤ) (z : ℤ) → AreFromBelow rows → Contains rows z
    → z ≤ℤ get_or rows (length rows - 1) (pos 0)
below_last rows z sorted has =
    let h = has.1 in
    rw (row_read rows z has) at (sorted has.0 (length rows - 1) (pos 0) (omega arith) (omega arith))

pub ends_among_rows : (heights rows : List ℤ) (edges : List Edge)
    → ((y : ℤ) → Contains heights y → Contains rows y) → All (HasEndsAmong heights) edges
    → All (HasEndsAmong rows) edges
ends_among_rows heights rows edges kept ends =
    All-weaker (HasEndsAmong heights) (HasEndsAmong rows) (λ e t. (kept e.low t.0, kept e.high t.1))
    edges ends

pub clear_gaps : (rows : List ℤ) (edges : List Edge) → AreFromBelow rows
    → All (HasEndsAmong rows) edges → AreClear rows edges
clear_gaps rows edges sorted ends k h i d l =
    let t = ends i d l in
    record {
      low = outside_gap rows k (get_or edges i d).low sorted h t.0;
      high = outside_gap rows k (get_or edges i d).high sorted h t.1;
    }

count_none : {X : Type 0} (xs : List X) → count_by (λ _. false) xs ≡ 0
count_none [] = refl
count_none (x ∷ xs) = sum_by-cons (λ _. cond false 1 0) x xs ∙ omega (arith, count_none xs)

-- an edge whose rows don't include the square's row is not counted
uncounted_up : (s : Square) (e : Edge) → (s.row <ℤ e.low) ⊎ (e.high ≤ℤ s.row)
    → rises_left s e ≡ false
unfolding rises_left rises_in
uncounted_up s e h =
    false_from_ne_true (int_le e.x s.column
    && (e.is_up && (int_le e.low s.row && int_lt s.row e.high))) (λ t.
    let a = and_parts (int_le e.low s.row) (int_lt s.row e.high)
    (and_parts e.is_up (int_le e.low s.row && int_lt s.row e.high)
    (and_parts (int_le e.x s.column) (e.is_up && (int_le e.low s.row && int_lt s.row e.high))
    t).1).1 in
    let u = le_from_test e.low s.row a.0 in
    let v = lt_from_test s.row e.high a.1 in
    elim h [ inl x ↦ omega (arith, ints) | inr x ↦ omega (arith, ints) ])

uncounted_down : (s : Square) (e : Edge) → (s.row <ℤ e.low) ⊎ (e.high ≤ℤ s.row)
    → falls_left s e ≡ false
unfolding falls_left falls_in
uncounted_down s e h =
    false_from_ne_true (int_le e.x s.column
    && (not e.is_up && (int_le e.low s.row && int_lt s.row e.high))) (λ t.
    let a = and_parts (int_le e.low s.row) (int_lt s.row e.high)
    (and_parts (not e.is_up) (int_le e.low s.row && int_lt s.row e.high)
    (and_parts (int_le e.x s.column) (not e.is_up
    && (int_le e.low s.row && int_lt s.row e.high)) t).1).1 in
    let u = le_from_test e.low s.row a.0 in
    let v = lt_from_test s.row e.high a.1 in
    elim h [ inl x ↦ omega (arith, ints) | inr x ↦ omega (arith, ints) ])

no_squares : (edges : List Edge) (s : Square)
    → All (λ (e : Edge). (s.row <ℤ e.low) ⊎ (e.high ≤ℤ s.row)) edges → edges_have edges s ≡ false
unfolding edges_have
no_squares edges s h =
    rw (
      count_by_agree (rises_left s) (λ _. false) edges
          (λ i d l. uncounted_up s (get_or edges i d) (h i d l)),
      count_by_agree (falls_left s)
          (λ _. false) edges (λ i d l. uncounted_down s (get_or edges i d) (h i d l)),
      count_none edges,
    )

-- all squares lie between the first and the last row
pub all_rows : (rows : List ℤ) (edges : List Edge) (s : Square) → AreFromBelow rows
    → All (HasEndsAmong rows) edges → (is_between (get_or rows 0 (pos 0))
    (get_or rows (length rows - 1) (pos 0)) s.row && edges_have edges s) ≡ edges_have edges s
unfolding is_between
all_rows rows edges s sorted ends =
    let y0 = get_or rows 0 (pos 0) in
    let y1 = get_or rows (length rows - 1) (pos 0) in
    elim (cases_lt_z s.row y0) [
      | inl lt ↦ rw (
        not_le_test y0 s.row lt,
        no_squares edges s (λ i d l. inl
            (let a = above_first rows (get_or edges i d).low sorted (ends i d l).0 in
            omega (arith, ints))),
      )
      | inr le ↦
          elim (cases_lt_z s.row y1) [
            | inl lt ↦ rw (test_from_le y0 s.row le, test_from_lt s.row y1 lt)
            | inr ge ↦ rw (
              test_from_le y0 s.row le,
              not_lt_test s.row y1 ge,
              no_squares edges s (λ i d l. inr
                  (let a = below_last rows (get_or edges i d).high sorted (ends i d l).1 in
                  omega (arith, ints))),
            )
          ]
    ]

-- without rows there are no edges
pub no_rows_no_edges : (rows : List ℤ) (edges : List Edge) (s : Square) → length rows ≡ 0
    → All (HasEndsAmong rows) edges → edges_have edges s ≡ false
no_rows_no_edges rows edges s h ends =
    no_squares edges s (λ i d l. let t = (ends i d l).0.1 in absurd (omega (arith, h)))

-- the winding number is 0 exactly if as many edges go up as down
pub winding_is : (u d : ℕ) → int_eq (pos u -ℤ pos d) (pos 0) ≡ (u == d)
winding_is u d =
    same_tests (int_eq (pos u -ℤ pos d) (pos 0)) (u == d)
    (λ h. eq-eqb u d (omega (arith, ints, (Decides-int_eq (pos u -ℤ pos d) (pos 0)).0 h)))
    (λ h. (Decides-int_eq (pos u -ℤ pos d) (pos 0)).1
    (let e = eqb-true u d h in omega (arith, ints)))

pub edges_are_boundary : (corners : List Point) (edges : List Edge) (s : Square)
    → count_by (rises_left s) edges ≡ upward corners s
    → count_by (falls_left s) edges ≡ downward corners s
    → edges_have edges s ≡ boundary_has corners s
unfolding edges_have boundary_has winding
edges_are_boundary corners edges s up down =
    rw (up, down, winding_is (upward corners s) (downward corners s))
