-- The positions of the instances of an array as a frame is placed: at equal steps along their columns and their rows.
use Rattle.std.proofs.Common.{◌≡◌, ℕ, ◌+◌, suc, ℤ, pos, negsuc, ◌+ℤ◌, ◌-ℤ◌, ◌*ℤ◌, neg_ℤ, refl, sym, ap, ◌∙◌, arith}
use lib.IntN.{neg_ℤ-+ℤ}
use Rattle.std.specs.Int.{int_min, int_max}
use Rattle.std.proofs.Math.Nat.{add-mul}
use Rattle.std.proofs.lemmas.Int.{ints, clamps}
use Rattle.mpw_geom.proofs.Boxes.{same_box}
use Rattle.mpw_geom.proofs.Chains.{same_point}
use Rattle.mpw_geom.specs.declared.plane.Box2.{Box2}
use Rattle.mpw_geom.specs.declared.plane.Orient.{Orient}
use Rattle.mpw_geom.specs.declared.plane.Orient.TheVariants.{R0, R90, R180, R270, M0, M90, M180, M270}
use Rattle.mpw_geom.specs.declared.plane.Point.{Point}
use Rattle.mpw_geom.specs.declared.placing.Placing.{Placing}
use Rattle.mpw_geom.specs.Plane.{box_between}
use Rattle.mpw_geom.specs.Placing.{by_orient, oriented_point, placed_point}
use Rattle.mpw_structures.specs.declared.element.Reference.{Reference}
use Rattle.mpw_hier.specs.Items.{mirrored, turned, placed_again, stepped, instance}
use Rattle.mpw_hier.specs.Boxes.{placed_box}
use Rattle.mpw_walk.specs.Internal.Skips.{box_on, box_at}
use Rattle.mpw_walk.proofs.Skipping.{back_steps}

more_steps : (a b : ℕ) (s : ℤ) → pos (a + b) *ℤ s ≡ (pos a *ℤ s) +ℤ (pos b *ℤ s)
more_steps a b (pos c) = ap pos (add-mul a b c)
more_steps a b (negsuc c) = let e = add-mul a b (suc c) in omega (arith, ints, e)

-- ---- points

-- steps commute with an orientation
module _ (n : ℕ) where
  once : (a s : ℤ) → neg_ℤ (a +ℤ (pos n *ℤ s)) ≡ neg_ℤ a +ℤ (pos n *ℤ neg_ℤ s)
  once a s = neg_ℤ-+ℤ a (pos n *ℤ s) ∙ ap (λ z. neg_ℤ a +ℤ z) (sym (back_steps n s))

  twice : (a s : ℤ)
      → neg_ℤ (neg_ℤ (a +ℤ (pos n *ℤ s))) ≡ neg_ℤ (neg_ℤ a) +ℤ (pos n *ℤ neg_ℤ (neg_ℤ s))
  twice a s = ap neg_ℤ (once a s) ∙ once (neg_ℤ a) (neg_ℤ s)

  thrice : (a s : ℤ) → neg_ℤ (neg_ℤ (neg_ℤ (a +ℤ (pos n *ℤ s))))
      ≡ neg_ℤ (neg_ℤ (neg_ℤ a)) +ℤ (pos n *ℤ neg_ℤ (neg_ℤ (neg_ℤ s)))
  thrice a s = ap neg_ℤ (twice a s) ∙ once (neg_ℤ (neg_ℤ a)) (neg_ℤ (neg_ℤ s))

  oriented_stepped : (o : Orient) (p s : Point)
      → oriented_point o (stepped p n s) ≡ stepped (oriented_point o p) n (oriented_point o s)
  unfolding oriented_point
  oriented_stepped R0 p s = refl
  oriented_stepped R90 p s = same_point _ _ (once p.y s.y) refl
  oriented_stepped R180 p s = same_point _ _ (once p.x s.x) (once p.y s.y)
  oriented_stepped R270 p s = same_point _ _ (twice p.y s.y) (once p.x s.x)
  oriented_stepped M0 p s = same_point _ _ refl (once p.y s.y)
  oriented_stepped M90 p s = same_point _ _ (twice p.y s.y) refl
  oriented_stepped M180 p s = same_point _ _ (once p.x s.x) (twice p.y s.y)
  oriented_stepped M270 p s = same_point _ _ (thrice p.y s.y) (once p.x s.x)

placed_stepped : (t : Placing) (p : Point) (n : ℕ) (s : Point)
    → placed_point t (stepped p n s) ≡ stepped (placed_point t p) n (oriented_point t.orient s)
unfolding placed_point
placed_stepped t p n s =
    let whole = oriented_stepped n t.orient p s in
    let x = ap (λ (q : Point). q.x) whole in
    let y = ap (λ (q : Point). q.y) whole in
    same_point _ _ (omega (arith, ints, x)) (omega (arith, ints, y))

-- ---- boxes

moved_least : (a b d s : ℤ) → int_min (a +ℤ (d +ℤ s)) (b +ℤ (d +ℤ s)) ≡ int_min (a +ℤ d) (b +ℤ d)
    +ℤ s
moved_least a b d s = omega (arith, ints, clamps)

moved_most : (a b d s : ℤ) → int_max (a +ℤ (d +ℤ s)) (b +ℤ (d +ℤ s)) ≡ int_max (a +ℤ d) (b +ℤ d)
    +ℤ s
moved_most a b d s = omega (arith, ints, clamps)

box_stepped : (o : Orient) (p : Point) (n : ℕ) (s : Point) (e : Box2)
    → placed_box (record { orient = o; by = stepped p n s }) e
    ≡ box_on (placed_box (record { orient = o; by = p }) e) s n
unfolding placed_box placed_point box_between
box_stepped o p n s e =
    let low = oriented_point o (record { x = e.x0; y = e.y0 }) in
    let high = oriented_point o (record { x = e.x1; y = e.y1 }) in
    same_box _ _ (moved_least low.x high.x p.x (pos n *ℤ s.x))
    (moved_least low.y high.y p.y (pos n *ℤ s.y)) (moved_most low.x high.x p.x (pos n *ℤ s.x))
    (moved_most low.y high.y p.y (pos n *ℤ s.y))

module _ (t : Placing) (r : Reference) (e : Box2) where
  abbrev across : Point
  across = oriented_point t.orient r.column_step

  abbrev up : Point
  up = oriented_point t.orient r.row_step

  abbrev pub there : (row column : ℕ) → Box2
  there row column = placed_box (placed_again t (instance r row column)) e

  abbrev first : Box2
  first = placed_box (placed_again t (record { orient = r.orient; by = r.origin })) e

  there_is : (row column : ℕ) → there row column ≡ box_on (box_on first across column) up row
  unfolding placed_again
  there_is row column =
      let o = by_orient mirrored turned t.orient r.orient in
      let by = placed_stepped t (stepped r.origin column r.column_step) row r.row_step
      ∙ ap (λ p. stepped p row up) (placed_stepped t r.origin column r.column_step) in
      ap (λ p. placed_box (record { orient = o; by = p }) e) by
      ∙ box_stepped o (stepped (placed_point t r.origin) column across) row up e
      ∙ ap (λ b. box_on b up row) (box_stepped o (placed_point t r.origin) column across e)

  column_on : (a s u : ℤ) (row column k : ℕ)
      → (a +ℤ (pos (column + k) *ℤ s)) +ℤ (pos row *ℤ u)
      ≡ ((a +ℤ (pos column *ℤ s)) +ℤ (pos row *ℤ u)) +ℤ (pos k *ℤ s)
  column_on a s u row column k = let m = more_steps column k s in omega (arith, ints, m)

  pub columns_on : (row column k : ℕ) → there row (column + k) ≡ box_on (there row column) across k
  columns_on row column k =
      there_is row (column + k)
      ∙ same_box _ _ (column_on first.x0 across.x up.x row column k)
      (column_on first.y0 across.y up.y row column k)
      (column_on first.x1 across.x up.x row column k)
      (column_on first.y1 across.y up.y row column k)
      ∙ ap (λ b. box_on b across k) (sym (there_is row column))

  row_on : (a s u : ℤ) (row column k to : ℕ)
      → (a +ℤ (pos to *ℤ s)) +ℤ (pos (row + k) *ℤ u)
      ≡ (((a +ℤ (pos column *ℤ s)) +ℤ (pos row *ℤ u)) +ℤ ((pos to *ℤ s) -ℤ (pos column *ℤ s)))
      +ℤ (pos k *ℤ u)
  row_on a s u row column k to = let m = more_steps row k u in omega (arith, ints, m)

  pub rows_on : (row column k to : ℕ)
      → there (row + k) to ≡ box_on (box_at (there row column) across column to) up k
  rows_on row column k to =
      there_is (row + k) to
      ∙ same_box _ _ (row_on first.x0 across.x up.x row column k to)
      (row_on first.y0 across.y up.y row column k to)
      (row_on first.x1 across.x up.x row column k to)
      (row_on first.y1 across.y up.y row column k to)
      ∙ ap (λ b. box_on (box_at b across column to) up k) (sym (there_is row column))
