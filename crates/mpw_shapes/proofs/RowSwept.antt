-- A row of the tree, as the edges are processed from left to right.
use Rattle.std.proofs.Common.{◌≡◌, ◌≢◌, inl, inr, refl, sym, ◌∙◌, ℕ, ◌+◌, ◌-◌, ◌<◌, ◌+ℤ◌, ◌≤ℤ◌, ◌<ℤ◌, ℤ, pos, negsuc, Bool, true, false, not, ◌&&◌, ◌||◌, cond, arith, List, [], length, get_or, All}
use Rattle.std.specs.Prelude.{int_lt, int_le, ◌==◌}
use Rattle.std.proofs.lemmas.Int.{ints}
use Rattle.std.proofs.lemmas.Bool.{cases_eq, eq-eqb, ne_eqb, false_from_ne_true, and_from}
use Rattle.std.proofs.lemmas.List.Elements.{All-nil}
use Rattle.mpw_geom.specs.declared.plane.Box2.{Box2}
use Rattle.mpw_geom.specs.Plane.{Square, HasArea, any_has_square}
use Rattle.mpw_geom.proofs.Tests.{test_from_le, test_from_lt}
use Rattle.mpw_shapes.specs.declared.edge.Edge.{Edge}
use Rattle.mpw_shapes.specs.declared.rows.Rows.{Rows}
use Rattle.mpw_shapes.specs.declared.rows.Rows.TheVariants.{Alike}
use Rattle.mpw_shapes.specs.declared.rows.State.{State}
use Rattle.mpw_shapes.specs.Internal.Edges.{rises_in, falls_in, edges_have, AreFromLeft, AreFromBelow, HasEndsAmong, IsBalanced, is_between}
use Rattle.mpw_shapes.specs.Internal.Rows.{IsBuilt, closes, crosses, past, reach, right_of, state_at, turn_of}
use Rattle.mpw_shapes.specs.Internal.Turned.{Turned}
use Rattle.mpw_shapes.proofs.RowStates.{eq_test, ne_test, size_none}
use Rattle.mpw_shapes.proofs.Swept.{at, Swept, Crosses, swept_none, swept_past, swept_next, swept_closed, swept_all}
use Rattle.mpw_shapes.proofs.TurnedRows.{closes_all, closes_none, right_of_none, right_of_all, between_parts, past_winding}
use Rattle.mpw_shapes.proofs.Whole.{all_rows, no_rows_no_edges}

-- the state of a row right of k edges, where `has` are the columns of its squares in boxes
pub record RowSwept (edges : List Edge) (row : ℤ) (k : ℕ) (s : State) (has : ℤ → Bool) :
    Type 0 where
  pub ups : ℕ
  pub downs : ℕ
  pub winding : s.winding +ℤ pos downs ≡ pos ups
  pub swept : Swept edges row k ups downs s.since has

rises_as : (row : ℤ) (e : Edge) (b : Bool) → crosses e row ≡ b → rises_in row e ≡ (e.is_up && b)
unfolding rises_in crosses
rises_as row e b h = rw h

falls_as : (row : ℤ) (e : Edge) (b : Bool) → crosses e row ≡ b → falls_in row e ≡ (not e.is_up && b)
unfolding falls_in crosses
falls_as row e b h = rw h

and_nothing : (b : Bool) → (b && false) ≡ false
and_nothing true = refl
and_nothing false = refl

and_all : (b : Bool) → (b && true) ≡ b
and_all true = refl
and_all false = refl

or_none : (b : Bool) → (b || false) ≡ b
or_none true = refl
or_none false = refl

-- the winding number agrees with the counts
turned_counts : (e : Edge) (w : ℤ) (ups downs : ℕ) → w +ℤ pos downs ≡ pos ups
    → (w +ℤ (turn_of e).winding) +ℤ pos (downs + cond e.is_up 0 1) ≡ pos (ups + cond e.is_up 1 0)
turned_counts e w ups downs h =
    elim e.is_up as (λ t. (w +ℤ cond t (pos 1) (negsuc 0)) +ℤ pos (downs + cond t 0 1)
    ≡ pos (ups + cond t 1 0)) [
      | true ↦ omega (arith, ints)
      | false ↦ omega (arith, ints)
    ]

-- where squares begin right of an edge that doesn't end them
begins : (e : Edge) (s : State) (ups downs : ℕ) → s.winding +ℤ pos downs ≡ pos ups
    → (s.winding +ℤ (turn_of e).winding) ≢ pos 0
    → (past e s).since ≡ cond (ups == downs) e.x s.since
unfolding past
begins e s ups downs h n =
    elim (cases_eq ups downs) [
      | inl same ↦ rw (eq_test s.winding (pos 0) (omega (arith, ints)), eq-eqb ups downs same)
      | inr other ↦ rw (
        ne_test s.winding (pos 0) (λ z. other (omega (arith, ints))),
        ne_test (s.winding +ℤ (turn_of e).winding) (pos 0) n,
        ne_eqb ups downs other,
      )
    ]

module _ (edges : List Edge) (row : ℤ) (k : ℕ) (d : Edge) (s : State) (has has' : ℤ → Bool)
    (w : RowSwept edges row k s has) (sorted : AreFromLeft edges) (h : k < length edges)
    (added : (c : ℤ) → has' c ≡ (has c
    || (crosses (get_or edges k d) row && closes (get_or edges k d) s c))) where
  missed : crosses (get_or edges k d) row ≡ false → RowSwept edges row (k + 1) s has'
  missed t = record {
    ups = w.ups;
    downs = w.downs;
    winding = w.winding;
    swept = swept_past edges row k d w.ups w.downs s.since has has' w.swept h
        (rises_as row (get_or edges k d) false t ∙ and_nothing (get_or edges k d).is_up)
        (falls_as row (get_or edges k d) false t ∙ and_nothing (not (get_or edges k d).is_up))
        (λ c. added c ∙ rw t (or_none (has c)));
  }

  crossed : crosses (get_or edges k d) row ≡ true
      → RowSwept edges row (k + 1) (past (get_or edges k d) s) has'
  crossed t =
      let e = get_or edges k d in
      let ups' = w.ups + cond e.is_up 1 0 in
      let downs' = w.downs + cond e.is_up 0 1 in
      let counts = turned_counts e s.winding w.ups w.downs w.winding in
      let crossing : (ups' ≢ downs' → (s.winding +ℤ (turn_of e).winding) ≢ pos 0)
      → Crosses edges row k d w.ups w.downs s.since ups' downs' (past e s).since =
      λ opens. record {
        up = rises_as row e true t ∙ and_all e.is_up;
        down = falls_as row e true t ∙ and_all (not e.is_up);
        more_up = refl;
        more_down = refl;
        begins = λ n. begins e s w.ups w.downs w.winding (opens n);
      } in
      let opens : ups' ≢ downs' → (s.winding +ℤ (turn_of e).winding) ≢ pos 0 =
      λ n z. n (omega (arith, ints, counts, z)) in
      record {
        ups = ups';
        downs = downs';
        winding = rw (past_winding e s) counts;
        swept =
            elim (cases_eq ups' downs') [
              | inl same ↦ swept_closed edges row k d w.ups w.downs s.since has has' ups' downs'
                  (past e s).since w.swept sorted h (crossing opens) same
                  (λ c. added c ∙ rw (t, closes_all e s c (omega (arith, ints, counts, same))))
              | inr other ↦ swept_next edges row k d w.ups w.downs s.since has has' ups' downs'
                  (past e s).since w.swept sorted h (crossing opens) other
                  (λ c. added c ∙ rw (t, closes_none e s c (opens other)) (or_none (has c)))
            ];
      }

  pub row_next : RowSwept edges row (k + 1) (right_of (get_or edges k d) row s) has'
  row_next =
      elim (crosses (get_or edges k d) row) as (λ t. (crosses (get_or edges k d) row ≡ t)
      → RowSwept edges row (k + 1) (right_of (get_or edges k d) row s) has') [
        | true ↦ λ t. rw (right_of_all (get_or edges k d) row s t) (crossed t)
        | false ↦ λ t. rw (right_of_none (get_or edges k d) row s t) (missed t)
      ] refl

-- the tree and the boxes right of k edges
pub record Sweeping (rows : List ℤ) (top : ℕ) (edges : List Edge) (k : ℕ) (node : Rows)
    (boxes : List Box2) : Type 0 where
  pub built : IsBuilt node rows 0 top
  pub near : reach node ≤ℤ pos k
  pub area : All HasArea boxes
  pub inside : (row : ℤ) → get_or rows 0 (pos 0) ≤ℤ row → row <ℤ get_or rows top (pos 0)
      → RowSwept edges row k (state_at node rows 0 top row) (λ c. any_has_square boxes (at c row))
  pub outside : (s : Square) → is_between (get_or rows 0 (pos 0)) (get_or rows top (pos 0)) s.row
      ≡ false → any_has_square boxes s ≡ false

pub sweeping_none : (rows : List ℤ) (top : ℕ) (edges : List Edge)
    → Sweeping rows top edges 0 (Alike (record { winding = pos 0; since = pos 0 })) []
unfolding any_has_square
sweeping_none rows top edges = record {
  built = tt;
  near = rw size_none (omega (arith, ints));
  area = All-nil HasArea;
  inside = λ row _ _. record {
    ups = 0;
    downs = 0;
    winding = omega (arith, ints);
    swept = swept_none edges row (pos 0) (λ c. false) (λ c. refl);
  };
  outside = λ s _. refl;
}

between_test : (y0 y1 row : ℤ) → y0 ≤ℤ row → row <ℤ y1 → is_between y0 y1 row ≡ true
unfolding is_between
between_test y0 y1 row l u =
    and_from (int_le y0 row) (int_lt row y1) (test_from_le y0 row l) (test_from_lt row y1 u)

pub sweeping_next : (rows : List ℤ) (top : ℕ) (edges : List Edge) (k : ℕ) (d : Edge)
    (node node' : Rows) (boxes boxes' : List Box2) → Sweeping rows top edges k node boxes
    → AreFromLeft edges → k < length edges
    → Turned rows 0 top (get_or edges k d) node node' boxes boxes'
    → Sweeping rows top edges (k + 1) node' boxes'
sweeping_next rows top edges k d node node' boxes boxes' w sorted h t =
    let y0 = get_or rows 0 (pos 0) in
    let y1 = get_or rows top (pos 0) in
    record {
      built = t.built;
      near = let a = t.near in let b = w.near in omega (arith, ints);
      area = t.area;
      inside = λ row l u. rw (t.states row l u)
          (row_next edges row k d (state_at node rows 0 top row)
          (λ c. any_has_square boxes (at c row)) (λ c. any_has_square boxes' (at c row))
          (w.inside row l u) sorted h (λ c. t.squares (at c row)
          ∙ rw (between_test y0 y1 row l u)));
      outside = λ s no. t.squares s ∙ rw (no, w.outside s no);
    }

pub sweeping_all : (rows : List ℤ) (edges : List Edge) (node : Rows) (boxes : List Box2)
    → Sweeping rows (length rows - 1) edges (length edges) node boxes → AreFromBelow rows
    → All (HasEndsAmong rows) edges → ((row : ℤ) → IsBalanced edges row) → (s : Square)
    → any_has_square boxes s ≡ edges_have edges s
sweeping_all rows edges node boxes w sorted ends balanced s =
    let y0 = get_or rows 0 (pos 0) in
    let y1 = get_or rows (length rows - 1) (pos 0) in
    elim (is_between y0 y1 s.row) as (λ t. (is_between y0 y1 s.row ≡ t)
    → any_has_square boxes s ≡ edges_have edges s) [
      | true ↦ λ t.
          let p = between_parts y0 y1 s.row t in
          let r = w.inside s.row p.0 p.1 in
          swept_all edges s.row r.ups r.downs _ (λ c. any_has_square boxes (at c s.row)) r.swept
          (balanced s.row) s.column
      | false ↦ λ t. w.outside s t ∙ rw t at (all_rows rows edges s sorted ends)
    ] refl

between_none : (y row : ℤ) → is_between y y row ≡ false
between_none y row = false_from_ne_true (is_between y y row)
    (λ t. let p = between_parts y y row t in omega (arith, ints, p.0, p.1))

-- with at most one row there are no squares
pub no_squares_between : (rows : List ℤ) (edges : List Edge) → length rows < 2 → AreFromBelow rows
    → All (HasEndsAmong rows) edges → (s : Square) → edges_have edges s ≡ false
no_squares_between rows edges few sorted ends s =
    elim (cases_eq (length rows) 0) [
      | inl none ↦ no_rows_no_edges rows edges s none ends
      | inr some ↦
          let one : length rows - 1 ≡ 0 = omega (arith, few, some) in
          sym (all_rows rows edges s sorted ends)
          ∙ rw (one, between_none (get_or rows 0 (pos 0)) s.row)
    ]
