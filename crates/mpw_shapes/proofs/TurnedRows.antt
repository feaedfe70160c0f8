-- A node of rows before an edge and after it.
use Rattle.std.proofs.Common.{◌≡◌, ◌≢◌, ◌⊎◌, inl, inr, refl, sym, ◌∙◌, ap, subst, ℕ, ◌+◌, ◌-◌, ◌<◌, ◌≤◌, ◌+ℤ◌, ◌≤ℤ◌, ◌<ℤ◌, ◌^◌, ℤ, pos, Bool, true, false, ◌&&◌, ◌||◌, arith, List, length, get_or, All}
use Rattle.std.specs.Prelude.{int_lt, int_le, if◌then◌else◌}
use Rattle.std.specs.Int.{int_max}
use Rattle.std.proofs.lemmas.Int.{ints, clamps}
use Rattle.std.proofs.lemmas.Bool.{and_parts, and_from}
use Rattle.mpw_geom.specs.declared.plane.Box2.{Box2}
use Rattle.mpw_geom.specs.Plane.{Square, HasArea, any_has_square, has_square}
use Rattle.mpw_geom.proofs.Tests.{le_from_test, test_from_le, lt_from_test, test_from_lt}
use Rattle.mpw_shapes.specs.declared.edge.Edge.{Edge}
use Rattle.mpw_shapes.specs.declared.rows.Rows.{Rows}
use Rattle.mpw_shapes.specs.declared.rows.Rows.TheVariants.{Alike}
use Rattle.mpw_shapes.specs.declared.rows.State.{State}
use Rattle.mpw_shapes.specs.Internal.Edges.{AreFromBelow, is_between}
use Rattle.mpw_shapes.specs.Internal.Rows.{IsBuilt, closes, crosses, half_at, middle, past, raised, reach, right_of, size_of, state_at, turn_of}
use Rattle.mpw_shapes.specs.Internal.Turned.{Turned}
use Rattle.mpw_shapes.proofs.Columns.{not_lt_test, not_le_test}
use Rattle.mpw_shapes.proofs.Counts.{cases_lt_z}
use Rattle.mpw_shapes.proofs.RowStates.{eq_test, ne_test, past_staying, size_sum}

pub between_parts : (y0 y1 row : ℤ) → is_between y0 y1 row ≡ true → (y0 ≤ℤ row) × (row <ℤ y1)
unfolding is_between
between_parts y0 y1 row t =
    let p = and_parts (int_le y0 row) (int_lt row y1) t in
    (le_from_test y0 row p.0, lt_from_test row y1 p.1)

-- what holds in each row between two holds under the test
pub where_between : (y0 y1 row : ℤ) (a b : Bool) → (y0 ≤ℤ row → row <ℤ y1 → a ≡ b)
    → (is_between y0 y1 row && a) ≡ (is_between y0 y1 row && b)
where_between y0 y1 row a b h =
    elim (is_between y0 y1 row) as (λ t. (is_between y0 y1 row ≡ t) → (t && a) ≡ (t && b)) [
      | true ↦ λ t. let p = between_parts y0 y1 row t in h p.0 p.1
      | false ↦ λ t. refl
    ] refl

and_nothing : (a : Bool) → (a && false) ≡ false
and_nothing true = refl
and_nothing false = refl

or_nothing : (a : Bool) → a ≡ (a || false)
or_nothing true = refl
or_nothing false = refl

parted : (p q r t : Bool) → (((p && q) && r) && t) ≡ ((r && t) && (p && q))
parted true true true true = refl
parted true true true false = refl
parted true true false t = refl
parted true false true true = refl
parted true false true false = refl
parted true false false t = refl
parted false q true true = refl
parted false q true false = refl
parted false q false t = refl

-- a box by its rows and its columns
spanned : (b : Box2) (s : Square) → has_square b s
    ≡ (is_between b.y0 b.y1 s.row && (int_le b.x0 s.column && int_lt s.column b.x1))
unfolding has_square is_between
spanned b s =
    parted (int_le b.x0 s.column) (int_lt s.column b.x1) (int_le b.y0 s.row) (int_lt s.row b.y1)

pub past_winding : (e : Edge) (s : State) → (past e s).winding ≡ s.winding +ℤ (turn_of e).winding
unfolding past
past_winding e s = refl

pub closes_none : (e : Edge) (s : State) (c : ℤ) → (s.winding +ℤ (turn_of e).winding) ≢ pos 0
    → closes e s c ≡ false
unfolding closes
closes_none e s c h = rw (ne_test (s.winding +ℤ (turn_of e).winding) (pos 0) h)

pub closes_all : (e : Edge) (s : State) (c : ℤ) → s.winding +ℤ (turn_of e).winding ≡ pos 0
    → closes e s c ≡ (int_le s.since c && int_lt c e.x)
unfolding closes
closes_all e s c h = rw (eq_test (s.winding +ℤ (turn_of e).winding) (pos 0) h)

-- the box that an edge closes in rows in the same state
pub closed_box : (e : Edge) (state after : State) (y0 y1 : ℤ) (b : Box2) (any any' : Bool)
    (s : Square) → after ≡ past e state → after.winding ≡ pos 0
    → b ≡ record { x0 = state.since; y0 = y0; x1 = e.x; y1 = y1 } → any' ≡ (any || has_square b s)
    → any' ≡ (any || (is_between y0 y1 s.row && closes e state s.column))
closed_box e state after y0 y1 b any any' s is zero box added =
    added ∙ ap (λ (t : Bool). any || t)
    (spanned b s ∙ rw (
      box,
      closes_all e state s.column (sym (past_winding e state)
          ∙ sym (ap (λ (t : State). t.winding) is) ∙ zero),
    ))

pub closed_none : (e : Edge) (state after : State) (y0 y1 : ℤ) (any : Bool) (s : Square)
    → after ≡ past e state → after.winding ≢ pos 0
    → any ≡ (any || (is_between y0 y1 s.row && closes e state s.column))
closed_none e state after y0 y1 any s is some =
    or_nothing any ∙ rw (
      closes_none e state s.column
          (λ z. some (ap (λ (t : State). t.winding) is ∙ past_winding e state ∙ z)),
      and_nothing (is_between y0 y1 s.row),
    )

pub past_hidden : (e : Edge) (s : State) → s.winding ≢ pos 0
    → (s.winding +ℤ (turn_of e).winding) ≢ pos 0 → past e s ≡ raised (turn_of e) s
unfolding raised
past_hidden e s h k = sym (past_staying e s (raised (turn_of e) s) h refl k)

crosses_none : (e : Edge) (y0 y1 row : ℤ) → (e.high ≤ℤ y0) ⊎ (y1 ≤ℤ e.low) → y0 ≤ℤ row → row <ℤ y1
    → crosses e row ≡ false
unfolding crosses
crosses_none e y0 y1 row h l u =
    elim h [
      | inl x ↦ rw (not_lt_test row e.high (omega (arith, ints))) (and_nothing (int_le e.low row))
      | inr x ↦ rw (not_le_test e.low row (omega (arith, ints)))
    ]

crosses_all : (e : Edge) (y0 y1 row : ℤ) → e.low ≤ℤ y0 → y1 ≤ℤ e.high → y0 ≤ℤ row → row <ℤ y1
    → crosses e row ≡ true
unfolding crosses
crosses_all e y0 y1 row a b l u =
    and_from (int_le e.low row) (int_lt row e.high) (test_from_le e.low row (omega (arith, ints)))
    (test_from_lt row e.high (omega (arith, ints)))

pub right_of_none : (e : Edge) (row : ℤ) (s : State) → crosses e row ≡ false → right_of e row s ≡ s
unfolding right_of
right_of_none e row s h = rw h

pub right_of_all : (e : Edge) (row : ℤ) (s : State) → crosses e row ≡ true
    → right_of e row s ≡ past e s
unfolding right_of
right_of_all e row s h = rw h

pub size_turn : (e : Edge) → size_of (turn_of e).winding ≡ pos 1
unfolding size_of
size_turn e = elim e.is_up as (λ t. int_max (if t then pos 1 else Rattle.std.proofs.Common.negsuc 0)
    (Rattle.std.proofs.Common.neg_ℤ (if t then pos 1 else Rattle.std.proofs.Common.negsuc 0))
    ≡ pos 1) [ true ↦ refl | false ↦ refl ]

-- an edge that misses the rows
pub turned_missed : (rows : List ℤ) (from to : ℕ) (e : Edge) (node : Rows) (boxes : List Box2)
    → (e.high ≤ℤ get_or rows from (pos 0)) ⊎ (get_or rows to (pos 0) ≤ℤ e.low)
    → IsBuilt node rows from to → All HasArea boxes → Turned rows from to e node node boxes boxes
turned_missed rows from to e node boxes h built area =
    let y0 = get_or rows from (pos 0) in
    let y1 = get_or rows to (pos 0) in
    record {
      states = λ row l u. sym (right_of_none e row (state_at node rows from to row)
          (crosses_none e y0 y1 row h l u));
      squares = λ s. or_nothing (any_has_square boxes s)
          ∙ ap (λ (b : Bool). any_has_square boxes s || b)
          (sym (where_between y0 y1 s.row (crosses e s.row
          && closes e (state_at node rows from to s.row) s.column) false
          (λ l u. rw (crosses_none e y0 y1 s.row h l u)) ∙ and_nothing (is_between y0 y1 s.row)));
      built = built;
      near = omega (arith, ints);
      area = area;
    }

-- an edge that crosses all the rows, if none opens or closes
pub turned_hidden : (rows : List ℤ) (from to : ℕ) (e : Edge) (node node' : Rows) (boxes : List Box2)
    → e.low ≤ℤ get_or rows from (pos 0) → get_or rows to (pos 0) ≤ℤ e.high
    → ((row : ℤ)
    → state_at node' rows from to row ≡ raised (turn_of e) (state_at node rows from to row))
    → ((row : ℤ) → (state_at node rows from to row).winding ≢ pos 0)
    → ((row : ℤ) → ((state_at node rows from to row).winding +ℤ (turn_of e).winding) ≢ pos 0)
    → IsBuilt node' rows from to → reach node' ≤ℤ (reach node +ℤ pos 1) → All HasArea boxes
    → Turned rows from to e node node' boxes boxes
turned_hidden rows from to e node node' boxes a b states before after built near area =
    let y0 = get_or rows from (pos 0) in
    let y1 = get_or rows to (pos 0) in
    record {
      states = λ row l u. states row ∙ sym (right_of_all e row (state_at node rows from to row)
          (crosses_all e y0 y1 row a b l u) ∙ past_hidden e (state_at node rows from to row)
          (before row) (after row));
      squares =
          λ s. or_nothing (any_has_square boxes s)
          ∙ ap (λ (b : Bool). any_has_square boxes s || b)
          (sym
          (where_between y0 y1 s.row
          (crosses e s.row && closes e (state_at node rows from to s.row) s.column) false
          (λ l u.
          rw (
            crosses_all e y0 y1 s.row a b l u,
            closes_none e (state_at node rows from to s.row) s.column (after s.row),
          ))
          ∙ and_nothing (is_between y0 y1 s.row)));
      built = built;
      near = near;
      area = area;
    }

-- an edge that crosses all the rows, which are in the same state
pub turned_alike : (rows : List ℤ) (from to : ℕ) (e : Edge) (node : Rows) (s after : State)
    (boxes boxes' : List Box2) → e.low ≤ℤ get_or rows from (pos 0)
    → get_or rows to (pos 0) ≤ℤ e.high → node ≡ Alike s → after ≡ past e s
    → ((t : Square)
    → any_has_square boxes' t
    ≡ (any_has_square boxes t
    || (is_between (get_or rows from (pos 0)) (get_or rows to (pos 0)) t.row
    && closes e s t.column))) → All HasArea boxes'
    → Turned rows from to e node (Alike after) boxes boxes'
turned_alike rows from to e node s after boxes boxes' a b is f squares area =
    let y0 = get_or rows from (pos 0) in
    let y1 = get_or rows to (pos 0) in
    rw (is, f) (record {
      states = λ row l u. sym (right_of_all e row s (crosses_all e y0 y1 row a b l u));
      squares = λ t. squares t ∙ ap (λ (b : Bool). any_has_square boxes t || b)
          (where_between y0 y1 t.row (closes e s t.column) (crosses e t.row && closes e s t.column)
          (λ l u. rw (crosses_all e y0 y1 t.row a b l u)));
      built = tt;
      near = rw (past_winding e s) (let h = size_sum s.winding (turn_of e).winding in
          let k = size_turn e in omega (arith, ints, h, k));
      area = area;
    })

or_group : (a b c : Bool) → ((a || b) || c) ≡ (a || (b || c))
or_group true b c = refl
or_group false b c = refl

-- the rows of two halves are those of the whole
halved : (y0 q y1 row : ℤ) (f g h : Bool) → y0 ≤ℤ q → q ≤ℤ y1 → (row <ℤ q → f ≡ h)
    → (q ≤ℤ row → g ≡ h) → ((is_between y0 q row && f) || (is_between q y1 row && g))
    ≡ (is_between y0 y1 row && h)
unfolding is_between
halved y0 q y1 row f g h a b u v =
    elim (cases_lt_z row q) [
      | inl lt ↦ rw (
        u lt,
        test_from_lt row q lt,
        test_from_lt row y1 (omega (arith, ints)),
        not_le_test q row lt,
      ) (sym (or_nothing ((int_le y0 row && true) && h)))
      | inr le ↦ rw (
        v le,
        not_lt_test row q le,
        test_from_le q row le,
        test_from_le y0 row (omega (arith, ints)),
      )
    ]

module _ (rows : List ℤ) (from to : ℕ) (e : Edge) (node node' below above below' above' : Rows)
    (b0 b1 b2 : List Box2) (less : from + 1 < to) (sorted : AreFromBelow rows)
    (range : to < length rows)
    (whole : (row : ℤ) → half_at below above rows from to row ≡ state_at node rows from to row)
    (whole' : (row : ℤ) → state_at node' rows from to row ≡ half_at below' above' rows from to row)
    (t : Turned rows from (middle from to) e below below' b0 b1)
    (u : Turned rows (middle from to) to e above above' b1 b2) where
  half_below : (x y : Rows) (row : ℤ) → row <ℤ get_or rows (middle from to) (pos 0)
      → half_at x y rows from to row ≡ state_at x rows from (middle from to) row
  half_below x y row lt = rw (test_from_lt row (get_or rows (middle from to) (pos 0)) lt)

  half_above : (x y : Rows) (row : ℤ) → get_or rows (middle from to) (pos 0) ≤ℤ row
      → half_at x y rows from to row ≡ state_at y rows (middle from to) to row
  half_above x y row le = rw (not_lt_test row (get_or rows (middle from to) (pos 0)) le)

  state_below : (row : ℤ) → row <ℤ get_or rows (middle from to) (pos 0)
      → state_at below rows from (middle from to) row ≡ state_at node rows from to row
  state_below row lt = sym (half_below below above row lt) ∙ whole row

  state_above : (row : ℤ) → get_or rows (middle from to) (pos 0) ≤ℤ row
      → state_at above rows (middle from to) to row ≡ state_at node rows from to row
  state_above row le = sym (half_above below above row le) ∙ whole row

  -- an edge is processed half by half
  pub turned_halves : IsBuilt node' rows from to → reach below ≤ℤ reach node
      → reach above ≤ℤ reach node → reach node' ≤ℤ int_max (reach below') (reach above')
      → Turned rows from to e node node' b0 b2
  turned_halves built p q r =
      let y0 = get_or rows from (pos 0) in
      let m = get_or rows (middle from to) (pos 0) in
      let y1 = get_or rows to (pos 0) in
      let lo : y0 ≤ℤ m = sorted from (middle from to) (pos 0) (omega arith) (omega arith) in
      let hi : m ≤ℤ y1 = sorted (middle from to) to (pos 0) (omega arith) range in
      record {
        states = λ row l h.
            elim (cases_lt_z row m) [
              | inl lt ↦ whole' row ∙ half_below below' above' row lt ∙ t.states row l lt
                  ∙ ap (λ (s : State). right_of e row s) (state_below row lt)
              | inr le ↦ whole' row ∙ half_above below' above' row le ∙ u.states row le h
                  ∙ ap (λ (s : State). right_of e row s) (state_above row le)
            ];
        squares = λ s.
            u.squares s
            ∙ ap (λ (b : Bool). b || (is_between m y1 s.row
            && (crosses e s.row && closes e (state_at above rows (middle from to) to s.row)
            s.column))) (t.squares s)
            ∙ or_group (any_has_square b0 s)
            (is_between y0 m s.row && (crosses e s.row
            && closes e (state_at below rows from (middle from to) s.row) s.column))
            (is_between m y1 s.row && (crosses e s.row
            && closes e (state_at above rows (middle from to) to s.row) s.column))
            ∙ ap (λ (b : Bool). any_has_square b0 s || b)
            (halved y0 m y1 s.row
            _ _ (crosses e s.row && closes e (state_at node rows from to s.row) s.column) lo hi
            (λ lt. ap (λ (x : State). crosses e s.row && closes e x s.column)
            (state_below s.row lt))
            (λ le. ap (λ (x : State). crosses e s.row && closes e x s.column)
            (state_above s.row le)));
        built = built;
        near = let x = t.near in let y = u.near in omega (arith, ints, clamps, p, q, r, x, y);
        area = u.area;
      }
