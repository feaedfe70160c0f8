-- The instances of an array, and an array of some of them.
use Rattle.std.proofs.Common.{◌≡◌, ℕ, zero, suc, ◌+◌, ◌-◌, ◌<◌, ◌≤◌, ◌⊎◌, inl, inr, true, false, ℤ, pos, negsuc, ◌+ℤ◌, ◌*ℤ◌, List, ◌∷◌, map, Option, Some, refl, sym, ap, subst, ◌∙◌, arith}
use Rattle.std.specs.Prelude.{Contains, option_map}
use Rattle.std.specs.Int.{int_min, int_max}
use Rattle.std.specs.List.{range_with_len}
use Rattle.std.proofs.Math.Nat.{add-mul}
use Rattle.std.proofs.lemmas.Bool.{cases_lt}
use Rattle.std.proofs.lemmas.Int.{ints, clamps}
use Rattle.mpw_geom.proofs.Boxes.{same_box}
use Rattle.mpw_geom.proofs.Chains.{same_point}
use Rattle.mpw_geom.specs.Plane.{IsInPlane, box_between}
use Rattle.mpw_geom.specs.Placing.{oriented_point, placed_point}
use Rattle.mpw_geom.specs.declared.plane.Box2.{Box2}
use Rattle.mpw_geom.specs.declared.plane.Orient.{Orient}
use Rattle.mpw_geom.specs.declared.plane.Point.{Point}
use Rattle.mpw_geom.specs.declared.placing.Placing.{Placing}
use Rattle.mpw_structures.specs.declared.element.Reference.{Reference}
use Rattle.mpw_hier.specs.Boxes.{placed_box, item_box}
use Rattle.mpw_hier.specs.Items.{Item, placed_item, placed_items, stepped, instance, row_of, instances}
use Rattle.mpw_walk.specs.Window.{do_meet, is_met}
use Rattle.mpw_columns_contents.specs.declared.fit.Places.{Places}
use Rattle.mpw_columns_contents.specs.declared.thing.Array.{Array}
use Rattle.mpw_columns_contents.specs.Things.{reference_of}
use Rattle.mpw_columns_contents.specs.Internal.Making.{Shows}
use Rattle.mpw_columns_contents.specs.Internal.Fitting.{IsOutside, box_on, box_at, ColumnsMissed, RowsMissed, IsCut, IsInstanceAway, IsAway, IsInstanceOf, IsFitted}
use Rattle.mpw_columns_contents.proofs.Members.{contains_none, contains_first, contains_rest, contains_cases, mapped, contains_map, part_of, contains_part}
use Rattle.mpw_columns_contents.proofs.Spans.{nowhere}

-- ---- which they are

contains_range : (a n k : ℕ) → a ≤ k → k < a + n → Contains (range_with_len a n) k
contains_range a zero k low high = absurd (omega (arith, low, high))
contains_range a (suc n) k low high = elim (cases_lt a k) [
  | inl lt ↦ contains_rest a k (range_with_len (a + 1) n)
      (contains_range (a + 1) n k (omega (arith, lt)) (omega (arith, high)))
  | inr le ↦ let e : a ≡ k = omega (arith, low, le) in
      subst (λ m. Contains (a ∷ range_with_len (a + 1) n) m) e
      (contains_first a (range_with_len (a + 1) n))
]

range_contains : (a n k : ℕ) → Contains (range_with_len a n) k → (a ≤ k) × (k < a + n)
range_contains a zero k h = absurd (contains_none k h)
range_contains a (suc n) k h = elim (contains_cases a k (range_with_len (a + 1) n) h) [
  | inl e ↦ (omega (arith, e), omega (arith, e))
  | inr r ↦ let x = range_contains (a + 1) n k r in (omega (arith, x.0), omega (arith, x.1))
]

pub contains_instance : (r : Reference) (row column : ℕ) → row < r.rows → column < r.columns
    → Contains (instances r) (instance r row column)
unfolding instances
contains_instance r row column h l =
    contains_part (row_of r) (range_with_len 0 r.rows) row (instance r row column)
    (contains_range 0 r.rows row (omega arith) (omega (arith, h)))
    (contains_map (instance r row) (range_with_len 0 r.columns) column
    (contains_range 0 r.columns column (omega arith) (omega (arith, l))))

-- one of them
pub record IsInstance (r : Reference) (t : Placing) : Type 0 where
  pub row : ℕ
  pub column : ℕ
  pub row_within : row < r.rows
  pub column_within : column < r.columns
  pub is : instance r row column ≡ t

pub instance_is : (r : Reference) (t : Placing) → Contains (instances r) t → IsInstance r t
unfolding instances
instance_is r t h =
    let p = part_of (row_of r) (range_with_len 0 r.rows) t h in
    let m = mapped (instance r p.from) (range_with_len 0 r.columns) t p.is in
    record {
      row = p.from;
      column = m.from;
      row_within = let x = range_contains 0 r.rows p.from p.has in omega (arith, x.1);
      column_within = let x = range_contains 0 r.columns m.from m.has in omega (arith, x.1);
      is = m.is;
    }

-- ---- their boxes

moved_least : (a b d s : ℤ) → int_min (a +ℤ (d +ℤ s)) (b +ℤ (d +ℤ s)) ≡ int_min (a +ℤ d) (b +ℤ d) +ℤ
    s
moved_least a b d s = omega (arith, ints, clamps)

moved_most : (a b d s : ℤ) → int_max (a +ℤ (d +ℤ s)) (b +ℤ (d +ℤ s)) ≡ int_max (a +ℤ d) (b +ℤ d) +ℤ
    s
moved_most a b d s = omega (arith, ints, clamps)

box_stepped : (o : Orient) (p : Point) (n : ℕ) (s : Point) (e : Box2)
    → placed_box (record { orient = o; by = stepped p n s }) e
    ≡ box_on (placed_box (record { orient = o; by = p }) e) s n
unfolding placed_box placed_point box_between
box_stepped o p n s e =
    let low = oriented_point o (record { x = e.x0; y = e.y0 }) in
    let high = oriented_point o (record { x = e.x1; y = e.y1 }) in
    same_box _ _ (moved_least low.x high.x p.x (pos n *ℤ s.x))
    (moved_least low.y high.y p.y (pos n *ℤ s.y))
    (moved_most low.x high.x p.x (pos n *ℤ s.x)) (moved_most low.y high.y p.y (pos n *ℤ s.y))

instance_box : (a : Array) (e : Box2) (row column : ℕ)
    → placed_box (instance (reference_of a) row column) e ≡ box_at (placed_box a.first e) a row
    column
instance_box a e row column =
    box_stepped a.first.orient (stepped a.first.by column a.column_step) row a.row_step e
    ∙ ap (λ b. box_on b a.row_step row)
    (box_stepped a.first.orient a.first.by column a.column_step e)

box_still : (b : Box2) (s : Point) → box_on b s 0 ≡ b
box_still b s =
    same_box _ _ (omega (arith, ints)) (omega (arith, ints)) (omega (arith, ints))
    (omega (arith, ints))

module _ (a : Array) (there window e : Box2) (is : there ≡ placed_box a.first e) where
  at_box : (row column : ℕ) → do_meet (box_at there a row column) window ≡ false
      → IsInstanceAway a window e row column
  at_box row column h =
      ap (λ b. do_meet b window) (instance_box a e row column
      ∙ ap (λ b. box_at b a row column) (sym is)) ∙ h

  pub no_columns : (p : Places) → ColumnsMissed there window a p → p.end ≤ p.from
      → IsAway a window e
  no_columns p missed h row column lt less =
      at_box row column (missed row column less (nowhere p h column))

  pub no_rows : (p : Places) → RowsMissed there window a p → p.end ≤ p.from → IsAway a window e
  no_rows p missed h row column lt less = at_box row column (missed row column lt (nowhere p h row))

  -- the only one of an array
  pub single_away : a.columns ≡ 1 → a.rows ≡ 1 → do_meet there window ≡ false → IsAway a window e
  single_away columns rows miss row column lt less =
      let r : row ≡ 0 = omega (arith, lt, rows) in
      let c : column ≡ 0 = omega (arith, less, columns) in
      at_box row column (ap (λ n. do_meet (box_at there a n column) window) r
      ∙ ap (λ n. do_meet (box_at there a 0 n) window) c
      ∙ ap (λ b. do_meet b window) (box_still (box_on there a.column_step 0) a.row_step
      ∙ box_still there a.column_step) ∙ miss)

  -- ---- an array of some of them

  pub cut_fitted : (columns rows : Places) → columns.end ≤ a.columns → rows.end ≤ a.rows
      → ColumnsMissed there window a columns → RowsMissed there window a rows
      → (b : Array) → IsCut a columns rows b → IsFitted a window e b
  cut_fitted columns rows few_columns few_rows by_columns by_rows b cut = record {
    structure = cut.structure;
    node = cut.node;
    near = cut.near;
    kept = λ row column h l. go row column h l (place columns column) (place rows row);
    from = λ row column h l. record {
      at_row = rows.from + row;
      at_column = columns.from + column;
      row_within = omega (arith, h, cut.rows_are, few_rows);
      column_within = omega (arith, l, cut.columns_are, few_columns);
      is = sym (cut.instances row column);
    };
  }
    where
      place : (p : Places) (k : ℕ) → IsOutside p k ⊎ ((p.from ≤ k) × (k < p.end))
      place p k = elim (cases_lt k p.from) [
        | inl lt ↦ inl (inl lt)
        | inr le ↦ elim (cases_lt k p.end) [ inl lt ↦ inr (le, lt) | inr ge ↦ inl (inr ge) ]
      ]

      go : (row column : ℕ) → row < a.rows → column < a.columns → IsOutside columns column
          ⊎ ((columns.from ≤ column) × (column < columns.end))
          → IsOutside rows row ⊎ ((rows.from ≤ row) × (row < rows.end))
          → IsInstanceAway a window e row column ⊎ IsInstanceOf b a row column
      go row column h l (inl out) y = inl (at_box row column (by_columns row column l out))
      go row column h l (inr x) (inl out) = inl (at_box row column (by_rows row column h out))
      go row column h l (inr x) (inr y) =
          let i : rows.from + (row - rows.from) ≡ row = omega (arith, y.0) in
          let j : columns.from + (column - columns.from) ≡ column = omega (arith, x.0) in
          inr (record {
            at_row = row - rows.from;
            at_column = column - columns.from;
            row_within = omega (arith, y.0, y.1, cut.rows_are);
            column_within = omega (arith, x.0, x.1, cut.columns_are);
            is = cut.instances (row - rows.from) (column - columns.from)
                ∙ ap (λ n. instance (reference_of a) n (columns.from + (column - columns.from))) i
                ∙ ap (instance (reference_of a) row) j;
          })

pub whole_fitted : (a : Array) (window e : Box2) → IsInPlane a.first.by → IsFitted a window e a
whole_fitted a window e near = record {
  structure = refl;
  node = refl;
  near = near;
  kept = λ row column h l. inr (record {
    at_row = row;
    at_column = column;
    row_within = h;
    column_within = l;
    is = refl;
  });
  from = λ row column h l. record {
    at_row = row;
    at_column = column;
    row_within = h;
    column_within = l;
    is = refl;
  };
}

more_steps : (a b : ℕ) (s : ℤ) → pos (a + b) *ℤ s ≡ (pos a *ℤ s) +ℤ (pos b *ℤ s)
more_steps a b (pos c) = ap pos (add-mul a b c)
more_steps a b (negsuc c) = let e = add-mul a b (suc c) in omega (arith, ints, e)

cut_coordinate : (x s u : ℤ) (f g column row : ℕ)
    → (((x +ℤ (pos f *ℤ s)) +ℤ (pos g *ℤ u)) +ℤ (pos column *ℤ s)) +ℤ (pos row *ℤ u)
    ≡ (x +ℤ (pos (f + column) *ℤ s)) +ℤ (pos (g + row) *ℤ u)
cut_coordinate x s u f g column row =
    let p = more_steps f column s in
    let q = more_steps g row u in
    omega (arith, ints, p, q)

pub cut_instance : (a : Array) (columns rows : Places) (first by : Point)
    → first ≡ stepped a.first.by columns.from a.column_step
    → by ≡ stepped first rows.from a.row_step → (row column : ℕ)
    → stepped (stepped by column a.column_step) row a.row_step
    ≡ stepped (stepped a.first.by (columns.from + column) a.column_step) (rows.from + row)
    a.row_step
cut_instance a columns rows first by e f row column =
    let whole = f ∙ ap (λ p. stepped p rows.from a.row_step) e in
    ap (λ p. stepped (stepped p column a.column_step) row a.row_step) whole
    ∙ same_point _ _ (cut_coordinate a.first.by.x a.column_step.x a.row_step.x columns.from
    rows.from column row)
    (cut_coordinate a.first.by.y a.column_step.y a.row_step.y columns.from rows.from column row)

-- ---- their items

module _ (window : Box2) (items : List Item) (extent : Option Box2) (missed : (t : Placing)
    → is_met window (option_map (placed_box t) extent) ≡ false
    → (i : Item) → Contains (map (placed_item t) items) i
    → is_met window (item_box i) ≡ false) where
  abbrev shown : Placing → List Item
  shown t = map (placed_item t) items

  -- no item touches the window
  pub away_missed : (a : Array) (e : Box2) → extent ≡ Some e → IsAway a window e → (i : Item)
      → Contains (placed_items (reference_of a) items) i
      → is_met window (item_box i) ≡ false
  away_missed a e is away i h =
      let p = part_of shown (instances (reference_of a)) i h in
      let t = instance_is (reference_of a) p.from p.has in
      missed p.from (ap (λ o. is_met window (option_map (placed_box p.from) o)) is
      ∙ ap (λ u. do_meet (placed_box u e) window) (sym t.is)
      ∙ away t.row t.column t.row_within t.column_within) i p.is

  -- all items that touch it
  pub fitted_shows : (a b : Array) (e : Box2) → extent ≡ Some e → IsFitted a window e b
      → Shows window (placed_items (reference_of a) items) (placed_items (reference_of b) items)
  fitted_shows a b e is fit = record {
    whole = λ i h met. let p = part_of shown (instances (reference_of a)) i h in
        let t = instance_is (reference_of a) p.from p.has in
        go i p.from p.is met t.row t.column t.is
        (fit.kept t.row t.column t.row_within t.column_within);
    sound = λ i h. let p = part_of shown (instances (reference_of b)) i h in
        let t = instance_is (reference_of b) p.from p.has in
        let q = fit.from t.row t.column t.row_within t.column_within in
        contains_part shown (instances (reference_of a)) p.from i
        (subst (Contains (instances (reference_of a))) (q.is ∙ t.is)
        (contains_instance (reference_of a) q.at_row q.at_column q.row_within q.column_within))
        p.is;
  }
    where
      go : (i : Item) (t : Placing) → Contains (shown t) i → is_met window (item_box i) ≡ true
          → (row column : ℕ) → instance (reference_of a) row column ≡ t
          → IsInstanceAway a window e row column ⊎ IsInstanceOf b a row column
          → Contains (placed_items (reference_of b) items) i
      go i t h met row column at (inl away) =
          let out = missed t (ap (λ o. is_met window (option_map (placed_box t) o)) is
          ∙ ap (λ u. do_meet (placed_box u e) window) (sym at) ∙ away) i h in
          absurd (let f : true ≡ false = sym met ∙ out in cc)
      go i t h met row column at (inr q) =
          contains_part shown (instances (reference_of b)) t i
          (subst (Contains (instances (reference_of b))) (q.is ∙ at)
          (contains_instance (reference_of b) q.at_row q.at_column q.row_within
          q.column_within)) h
