-- The least box of all instances of a box is that of the instances at the corners of the array.
use Rattle.std.proofs.Common.{◌≡◌, ℕ, zero, suc, ◌+◌, ◌-◌, ◌≤◌, ℤ, pos, negsuc, ◌+ℤ◌, ◌*ℤ◌, ◌≤ℤ◌, ◌⊎◌, inl, inr, List, [], ◌∷◌, ◌++◌, map, Some, refl, ap, sym, ◌∙◌, arith}
use Rattle.std.specs.Int.{int_min, int_max}
use Rattle.std.specs.List.{flat_map, range_with_len}
use Rattle.std.proofs.Math.Nat.{add-mul}
use Rattle.std.proofs.lemmas.Int.{ints, clamps}
use Rattle.std.proofs.lemmas.List.{map-append}
use Rattle.mpw_geom.proofs.Boxes.{same_box}
use Rattle.mpw_geom.specs.declared.plane.Box2.{Box2}
use Rattle.mpw_geom.specs.declared.plane.Point.{Point}
use Rattle.mpw_geom.specs.Plane.{box_between, joined}
use Rattle.mpw_geom.specs.Placing.{placed_point, oriented_point}
use Rattle.mpw_structures.specs.declared.element.Reference.{Reference}
use Rattle.mpw_hier.specs.declared.size_array.WideBox.{WideBox}
use Rattle.mpw_hier.specs.declared.size_array.WidePoint.{WidePoint}
use Rattle.mpw_hier.specs.Items.{instance, row_of, instances}
use Rattle.mpw_hier.specs.Boxes.{hull, hull_of, placed_box}
use Rattle.mpw_hier.specs.Internal.SizeParts.{array_extent}
use Rattle.mpw_hier.proofs.Hulls.{hull_assoc}

-- ---- steps

record IsSpanned (x s : ℤ) (i n m : ℕ) : Type 0 where
  pub least : int_min (x +ℤ (pos i *ℤ s))
      (int_min (x +ℤ (pos (i + 1) *ℤ s)) (x +ℤ (pos ((i + 1) + n) *ℤ s)))
      ≡ int_min (x +ℤ (pos i *ℤ s)) (x +ℤ (pos m *ℤ s))
  pub most : int_max (x +ℤ (pos i *ℤ s))
      (int_max (x +ℤ (pos (i + 1) *ℤ s)) (x +ℤ (pos ((i + 1) + n) *ℤ s)))
      ≡ int_max (x +ℤ (pos i *ℤ s)) (x +ℤ (pos m *ℤ s))

more_steps : (a b : ℕ) (s : ℤ) → pos (a + b) *ℤ s ≡ (pos a *ℤ s) +ℤ (pos b *ℤ s)
more_steps a b (pos c) = ap pos (add-mul a b c)
more_steps a b (negsuc c) = let e = add-mul a b (suc c) in omega (arith, ints, e)

one_step : (s : ℤ) → pos 1 *ℤ s ≡ s
one_step (pos c) = omega (arith, ints)
one_step (negsuc c) = omega (arith, ints)

pub no_step : (s : ℤ) → pos 0 *ℤ s ≡ pos 0
no_step (pos c) = omega (arith, ints)
no_step (negsuc c) = omega (arith, ints)

-- steps lead in one direction
one_way : (n : ℕ) (s : ℤ) → ((pos 0 ≤ℤ s) × (pos 0 ≤ℤ (pos n *ℤ s)))
    ⊎ ((s ≤ℤ pos 0) × ((pos n *ℤ s) ≤ℤ pos 0))
one_way n (pos c) = inl (omega (arith, ints), omega (arith, ints))
one_way n (negsuc c) = inr (omega (arith, ints), omega (arith, ints))

spanned : (x s : ℤ) (i n m : ℕ) → m ≡ (i + 1) + n → IsSpanned x s i n m
spanned x s i n m same =
    let next = more_steps i 1 s ∙ ap (λ z. (pos i *ℤ s) +ℤ z) (one_step s) in
    let last = more_steps (i + 1) n s in
    let end = ap (λ k. pos k *ℤ s) same in
    elim (one_way n s) [
      | inl h ↦ record {
        least = omega (arith, ints, clamps, next, last, end);
        most = omega (arith, ints, clamps, next, last, end);
      }
      | inr h ↦ record {
        least = omega (arith, ints, clamps, next, last, end);
        most = omega (arith, ints, clamps, next, last, end);
      }
    ]

-- ---- displaced boxes

abbrev pub led : ℕ → Point → Point
led n step = record { x = pos n *ℤ step.x; y = pos n *ℤ step.y }

abbrev pub moved_box : Point → Box2 → Box2
moved_box d b = record { x0 = b.x0 +ℤ d.x; y0 = b.y0 +ℤ d.y; x1 = b.x1 +ℤ d.x; y1 = b.y1 +ℤ d.y }

least_same : (a : ℤ) → int_min a a ≡ a
least_same a = omega (arith, ints, clamps)

most_same : (a : ℤ) → int_max a a ≡ a
most_same a = omega (arith, ints, clamps)

joined_same : (b : Box2) → joined b b ≡ b
joined_same b = same_box _ _ (least_same b.x0) (least_same b.y0) (most_same b.x1) (most_same b.y1)

-- the least box of a line of boxes
line : (s : Point) (b : Box2) (i n : ℕ)
    → hull_of (map (λ k. moved_box (led k s) b) (range_with_len i (suc n)))
    ≡ Some (joined (moved_box (led i s) b) (moved_box (led (i + n) s) b))
unfolding hull_of
line s b i zero = let same : i + 0 ≡ i = omega arith in
    rw same (ap Some (sym (joined_same (moved_box (led i s) b))))
line s b i (suc n) =
    let far : i + suc n ≡ (i + 1) + n = omega arith in
    ap (hull (Some (moved_box (led i s) b))) (line s b (i + 1) n)
    ∙ ap Some (same_box _ _ (spanned b.x0 s.x i n (i + suc n) far).least
    (spanned b.y0 s.y i n (i + suc n) far).least (spanned b.x1 s.x i n (i + suc n) far).most
    (spanned b.y1 s.y i n (i + suc n) far).most)

line_of : (s : Point) (b : Box2) (n : ℕ)
    → hull_of (map (λ k. moved_box (led k s) b) (range_with_len 0 (suc n)))
    ≡ Some (joined (moved_box (led 0 s) b) (moved_box (led n s) b))
line_of s b n =
    let same : 0 + n ≡ n = omega arith in
    line s b 0 n ∙ ap (λ k. Some (joined (moved_box (led 0 s) b) (moved_box (led k s) b))) same

-- ---- the instances of an array

moved_least : (p q a b c : ℤ) → int_min (p +ℤ ((a +ℤ b) +ℤ c)) (q +ℤ ((a +ℤ b) +ℤ c))
    ≡ (int_min (p +ℤ a) (q +ℤ a) +ℤ c) +ℤ b
moved_least p q a b c = omega (arith, ints, clamps)

moved_most : (p q a b c : ℤ) → int_max (p +ℤ ((a +ℤ b) +ℤ c)) (q +ℤ ((a +ℤ b) +ℤ c))
    ≡ (int_max (p +ℤ a) (q +ℤ a) +ℤ c) +ℤ b
moved_most p q a b c = omega (arith, ints, clamps)

along_least : (x d a b : ℤ) → int_min ((x +ℤ d) +ℤ a) ((x +ℤ d) +ℤ b) ≡ int_min (x +ℤ a) (x +ℤ b) +ℤ
    d
along_least x d a b = omega (arith, ints, clamps)

along_most : (x d a b : ℤ) → int_max ((x +ℤ d) +ℤ a) ((x +ℤ d) +ℤ b) ≡ int_max (x +ℤ a) (x +ℤ b) +ℤ
    d
along_most x d a b = omega (arith, ints, clamps)

corner_least : (x o c p r : ℤ) → o ≡ pos 0 → p ≡ pos 0
    → int_min (int_min (x +ℤ o) (x +ℤ c) +ℤ p) (int_min (x +ℤ o) (x +ℤ c) +ℤ r)
    ≡ (x +ℤ int_min c (pos 0)) +ℤ int_min r (pos 0)
corner_least x o c p r e f = rw (e, f) (omega (arith, ints, clamps))

corner_most : (x o c p r : ℤ) → o ≡ pos 0 → p ≡ pos 0
    → int_max (int_max (x +ℤ o) (x +ℤ c) +ℤ p) (int_max (x +ℤ o) (x +ℤ c) +ℤ r)
    ≡ (x +ℤ int_max c (pos 0)) +ℤ int_max r (pos 0)
corner_most x o c p r e f = rw (e, f) (omega (arith, ints, clamps))

abbrev low : Box2 → Point
low b = record { x = b.x0; y = b.y0 }

abbrev high : Box2 → Point
high b = record { x = b.x1; y = b.y1 }

abbrev pub first_of : Reference → Box2 → Box2
first_of r b = placed_box (record { orient = r.orient; by = r.origin }) b

instance_box : (r : Reference) (row column : ℕ) (b : Box2)
    → placed_box (instance r row column) b ≡ moved_box (led column r.column_step)
    (moved_box (led row r.row_step) (first_of r b))
unfolding placed_box placed_point box_between
instance_box r row column b =
    let p = oriented_point r.orient (low b) in
    let q = oriented_point r.orient (high b) in
    let cs = led column r.column_step in
    let rs = led row r.row_step in
    same_box _ _ (moved_least p.x q.x r.origin.x cs.x rs.x)
    (moved_least p.y q.y r.origin.y cs.y rs.y) (moved_most p.x q.x r.origin.x cs.x rs.x)
    (moved_most p.y q.y r.origin.y cs.y rs.y)

pub hull_append : (xs ys : List Box2) → hull_of (xs ++ ys) ≡ hull (hull_of xs) (hull_of ys)
unfolding hull_of
hull_append [] ys = refl
hull_append (x ∷ xs) ys =
    ap (hull (Some x)) (hull_append xs ys) ∙ sym (hull_assoc (Some x) (hull_of xs) (hull_of ys))

-- lists whose least boxes are known
hull_flat : {A : Type 0} (h : A → Box2) (f : ℕ → List A) (g : ℕ → Box2)
    → ((k : ℕ) → hull_of (map h (f k)) ≡ Some (g k)) → (ks : List ℕ)
    → hull_of (map h (flat_map f ks)) ≡ hull_of (map g ks)
unfolding hull_of
hull_flat h f g each [] = refl
hull_flat h f g each (k ∷ ks) =
    ap hull_of (map-append h (f k) (flat_map f ks))
    ∙ hull_append (map h (f k)) (map h (flat_map f ks))
    ∙ ap (λ o. hull o (hull_of (map h (flat_map f ks)))) (each k)
    ∙ ap (hull (Some (g k))) (hull_flat h f g each ks)

map_each : {A B C : Type 0} (h : B → C) (f : A → B) (g : A → C) → ((a : A) → h (f a) ≡ g a)
    → (xs : List A) → map h (map f xs) ≡ map g xs
map_each h f g each [] = refl
map_each h f g each (x ∷ xs) = rw (each x, map_each h f g each xs) refl

-- the corners of a line of columns
abbrev pub columns_box : Reference → ℕ → Box2 → Box2
columns_box r n b = joined (moved_box (led 0 r.column_step) b) (moved_box (led n r.column_step) b)

moved_columns : (r : Reference) (n : ℕ) (d : Point) (b : Box2)
    → columns_box r n (moved_box d b) ≡ moved_box d (columns_box r n b)
moved_columns r n d b =
    same_box _ _ (along_least b.x0 d.x _ _) (along_least b.y0 d.y _ _) (along_most b.x1 d.x _ _)
    (along_most b.y1 d.y _ _)

one_row : (r : Reference) (n row : ℕ) (b : Box2) → r.columns ≡ suc n
    → hull_of (map (λ t. placed_box t b) (row_of r row))
    ≡ Some (moved_box (led row r.row_step) (columns_box r n (first_of r b)))
one_row r n row b e =
    ap hull_of (map_each (λ t. placed_box t b) (instance r row) _
    (λ column. instance_box r row column b) (range_with_len 0 r.columns))
    ∙ ap (λ k. hull_of (map (λ column. moved_box (led column r.column_step)
    (moved_box (led row r.row_step) (first_of r b))) (range_with_len 0 k))) e
    ∙ line_of r.column_step (moved_box (led row r.row_step) (first_of r b)) n
    ∙ ap Some (moved_columns r n (led row r.row_step) (first_of r b))

-- the box that the code makes of the first instance and of the last column and row
abbrev pub corners_box : Reference → (n m : ℕ) → Box2 → Box2
corners_box r n m b = record {
  x0 = (b.x0 +ℤ int_min (pos n *ℤ r.column_step.x) (pos 0)) +ℤ int_min (pos m *ℤ r.row_step.x)
      (pos 0);
  y0 = (b.y0 +ℤ int_min (pos n *ℤ r.column_step.y) (pos 0)) +ℤ int_min (pos m *ℤ r.row_step.y)
      (pos 0);
  x1 = (b.x1 +ℤ int_max (pos n *ℤ r.column_step.x) (pos 0)) +ℤ int_max (pos m *ℤ r.row_step.x)
      (pos 0);
  y1 = (b.y1 +ℤ int_max (pos n *ℤ r.column_step.y) (pos 0)) +ℤ int_max (pos m *ℤ r.row_step.y)
      (pos 0);
}

at_corners : (r : Reference) (n m : ℕ) (b : Box2)
    → joined (moved_box (led 0 r.row_step) (columns_box r n b))
    (moved_box (led m r.row_step) (columns_box r n b)) ≡ corners_box r n m b
at_corners r n m b =
    same_box _ _ (corner_least b.x0 _ _ _ _ (no_step r.column_step.x) (no_step r.row_step.x))
    (corner_least b.y0 _ _ _ _ (no_step r.column_step.y) (no_step r.row_step.y))
    (corner_most b.x1 _ _ _ _ (no_step r.column_step.x) (no_step r.row_step.x))
    (corner_most b.y1 _ _ _ _ (no_step r.column_step.y) (no_step r.row_step.y))

pub array_is : (r : Reference) (n m : ℕ) (b : Box2) → r.columns ≡ suc n → r.rows ≡ suc m
    → array_extent r (Some b) ≡ Some (corners_box r n m (first_of r b))
unfolding array_extent instances
array_is r n m b e f =
    hull_flat (λ t. placed_box t b) (row_of r)
    (λ row. moved_box (led row r.row_step) (columns_box r n (first_of r b)))
    (λ row. one_row r n row b e)
    (range_with_len 0 r.rows) ∙ ap (λ k. hull_of
    (map (λ row. moved_box (led row r.row_step) (columns_box r n (first_of r b)))
    (range_with_len 0 k))) f
    ∙ line_of r.row_step (columns_box r n (first_of r b)) m
    ∙ ap Some (at_corners r n m (first_of r b))

-- the same box, as the code makes it step by step
corner_sum : (w f c r p q : ℤ) (g : ℤ → ℤ → ℤ) (h : ℤ) → w ≡ (f +ℤ c) +ℤ r → f ≡ h → c ≡ g p (pos 0)
    → r ≡ g q (pos 0) → (s t : ℤ) → p ≡ s → q ≡ t → (h +ℤ g s (pos 0)) +ℤ g t (pos 0) ≡ w
corner_sum w f c r p q g h e a b d s t u v = sym (e ∙ rw (a, b, d, u, v) refl)

pub array_made : (r : Reference) (b first : Box2) (p q : WidePoint) (columns rows whole : WideBox)
    → 1 ≤ r.columns → 1 ≤ r.rows → first ≡ first_of r b
    → p.x ≡ pos (r.columns - 1) *ℤ r.column_step.x → p.y ≡ pos (r.columns - 1) *ℤ r.column_step.y
    → q.x ≡ pos (r.rows - 1) *ℤ r.row_step.x
    → q.y ≡ pos (r.rows - 1) *ℤ r.row_step.y
    → columns ≡ record {
      x0 = int_min p.x (pos 0);
      y0 = int_min p.y (pos 0);
      x1 = int_max p.x (pos 0);
      y1 = int_max p.y (pos 0);
    }
    → rows ≡ record {
      x0 = int_min q.x (pos 0);
      y0 = int_min q.y (pos 0);
      x1 = int_max q.x (pos 0);
      y1 = int_max q.y (pos 0);
    }
    → whole.x0 ≡ (first.x0 +ℤ columns.x0) +ℤ rows.x0
    → whole.y0 ≡ (first.y0 +ℤ columns.y0) +ℤ rows.y0
    → whole.x1 ≡ (first.x1 +ℤ columns.x1) +ℤ rows.x1
    → whole.y1 ≡ (first.y1 +ℤ columns.y1) +ℤ rows.y1
    → array_extent r (Some b) ≡ Some (record {
      x0 = whole.x0;
      y0 = whole.y0;
      x1 = whole.x1;
      y1 = whole.y1;
    })
array_made r b first p q columns rows whole one_column one_row f px py qx qy cs rs x0 y0 x1 y1 =
    let h = first_of r b in
    let e : r.columns ≡ suc (r.columns - 1) = omega (arith, one_column) in
    let g : r.rows ≡ suc (r.rows - 1) = omega (arith, one_row) in
    array_is r (r.columns - 1) (r.rows - 1) b e g ∙ ap Some
    (same_box _ _
    (corner_sum whole.x0 first.x0 columns.x0 rows.x0 p.x q.x int_min h.x0 x0
    (ap (λ (k : Box2). k.x0) f) (ap (λ (k : WideBox). k.x0) cs) (ap (λ (k : WideBox). k.x0) rs)
    _ _ px qx)
    (corner_sum whole.y0 first.y0 columns.y0 rows.y0 p.y q.y int_min h.y0 y0
    (ap (λ (k : Box2). k.y0) f) (ap (λ (k : WideBox). k.y0) cs) (ap (λ (k : WideBox). k.y0) rs)
    _ _ py qy)
    (corner_sum whole.x1 first.x1 columns.x1 rows.x1 p.x q.x int_max h.x1 x1
    (ap (λ (k : Box2). k.x1) f) (ap (λ (k : WideBox). k.x1) cs) (ap (λ (k : WideBox). k.x1) rs)
    _ _ px qx)
    (corner_sum whole.y1 first.y1 columns.y1 rows.y1 p.y q.y int_max h.y1 y1
    (ap (λ (k : Box2). k.y1) f) (ap (λ (k : WideBox). k.y1) cs) (ap (λ (k : WideBox). k.y1) rs)
    _ _ py qy))
