-- Steps commute with placings, and so do arrays.
use Rattle.std.proofs.Common.{◌≡◌, ℕ, ℤ, pos, ◌+ℤ◌, ◌*ℤ◌, neg_ℤ, List, map, refl, sym, ap, ◌∙◌, arith}
use lib.IntN.{neg_ℤ-+ℤ}
use Rattle.std.specs.List.{flat_map, range_with_len}
use Rattle.std.proofs.lemmas.Int.{ints}
use Rattle.std.proofs.lemmas.List.Folds.{flat_map-map}
use Rattle.mpw_geom.proofs.Chains.{same_point}
use Rattle.mpw_geom.specs.declared.plane.Orient.{Orient}
use Rattle.mpw_geom.specs.declared.plane.Orient.TheVariants.{R0, R90, R180, R270, M0, M90, M180, M270}
use Rattle.mpw_geom.specs.declared.plane.Point.{Point}
use Rattle.mpw_geom.specs.declared.placing.Placing.{Placing}
use Rattle.mpw_geom.specs.Placing.{oriented_point, placed_point}
use Rattle.mpw_structures.specs.declared.element.Reference.{Reference}
use Rattle.mpw_hier.specs.Items.{Item, placed_again, placed_item, placed_items, stepped, instance, row_of, instances}
use Rattle.mpw_walk.proofs.Placings.{same_placing, items_again}
use Rattle.mpw_walk.proofs.Skipping.{back_steps}
use Rattle.mpw_columns_contents.specs.Internal.Opening.{IsPlacedReference}
use Rattle.mpw_columns_contents.proofs.Lists.{map_same, flat_map_same, map_twice, map_flat}

module _ (n : ℕ) where
  once : (a s : ℤ) → neg_ℤ (a +ℤ (pos n *ℤ s)) ≡ neg_ℤ a +ℤ (pos n *ℤ neg_ℤ s)
  once a s = neg_ℤ-+ℤ a (pos n *ℤ s) ∙ ap (λ z. neg_ℤ a +ℤ z) (sym (back_steps n s))

  twice : (a s : ℤ) → neg_ℤ (neg_ℤ (a +ℤ (pos n *ℤ s))) ≡ neg_ℤ (neg_ℤ a) +ℤ
      (pos n *ℤ neg_ℤ (neg_ℤ s))
  twice a s = ap neg_ℤ (once a s) ∙ once (neg_ℤ a) (neg_ℤ s)

  thrice : (a s : ℤ) → neg_ℤ (neg_ℤ (neg_ℤ (a +ℤ (pos n *ℤ s)))) ≡ neg_ℤ (neg_ℤ (neg_ℤ a)) +ℤ
      (pos n *ℤ neg_ℤ (neg_ℤ (neg_ℤ s)))
  thrice a s = ap neg_ℤ (twice a s) ∙ once (neg_ℤ (neg_ℤ a)) (neg_ℤ (neg_ℤ s))

  oriented_stepped : (o : Orient) (p s : Point)
      → oriented_point o (stepped p n s) ≡ stepped (oriented_point o p) n (oriented_point o s)
  unfolding oriented_point
  oriented_stepped R0 p s = refl
  oriented_stepped R90 p s = same_point _ _ (once p.y s.y) refl
  oriented_stepped R180 p s = same_point _ _ (once p.x s.x) (once p.y s.y)
  oriented_stepped R270 p s = same_point _ _ (twice p.y s.y) (once p.x s.x)
  oriented_stepped M0 p s = same_point _ _ refl (once p.y s.y)
  oriented_stepped M90 p s = same_point _ _ (twice p.y s.y) refl
  oriented_stepped M180 p s = same_point _ _ (once p.x s.x) (twice p.y s.y)
  oriented_stepped M270 p s = same_point _ _ (thrice p.y s.y) (once p.x s.x)

pub placed_stepped : (t : Placing) (p : Point) (n : ℕ) (s : Point)
    → placed_point t (stepped p n s) ≡ stepped (placed_point t p) n (oriented_point t.orient s)
unfolding placed_point
placed_stepped t p n s =
    let whole = oriented_stepped n t.orient p s in
    let x = ap (λ (q : Point). q.x) whole in
    let y = ap (λ (q : Point). q.y) whole in
    same_point _ _ (omega (arith, ints, x)) (omega (arith, ints, y))

module _ (t : Placing) (r q : Reference) (h : IsPlacedReference t r q) where
  instance_placed : (row column : ℕ) → instance q row column ≡ placed_again t
      (instance r row column)
  unfolding placed_again
  instance_placed row column =
      let orient = ap (λ (p : Placing). p.orient) h.first in
      let by = ap (λ (p : Placing). p.by) h.first in
      let there = placed_stepped t (stepped r.origin column r.column_step) row r.row_step
      ∙ ap (λ p. stepped p row (oriented_point t.orient r.row_step))
      (placed_stepped t r.origin column r.column_step) in
      same_placing _ _ (sym orient)
      (ap (λ s. stepped (stepped q.origin column q.column_step) row s) h.row_step
      ∙ ap (λ s. stepped (stepped q.origin column s) row (oriented_point t.orient r.row_step))
      h.column_step
      ∙ ap (λ p. stepped (stepped p column (oriented_point t.orient r.column_step)) row
      (oriented_point t.orient r.row_step)) (sym by)
      ∙ sym there)

  row_placed : (row : ℕ) → row_of q row ≡ map (placed_again t) (row_of r row)
  row_placed row =
      ap (λ n. map (instance q row) (range_with_len 0 n)) h.columns
      ∙ map_same (instance q row) (λ column. placed_again t (instance r row column))
      (instance_placed row) (range_with_len 0 r.columns)
      ∙ sym (map_twice (placed_again t) (instance r row) (range_with_len 0 r.columns))

  pub instances_placed : instances q ≡ map (placed_again t) (instances r)
  unfolding instances
  instances_placed =
      ap (λ n. flat_map (row_of q) (range_with_len 0 n)) h.rows
      ∙ flat_map_same (row_of q) (λ row. map (placed_again t) (row_of r row)) row_placed
      (range_with_len 0 r.rows)
      ∙ sym (map_flat (placed_again t) (row_of r) (range_with_len 0 r.rows))

  pub items_placed : (items : List Item)
      → map (placed_item t) (placed_items r items) ≡ placed_items q items
  items_placed items =
      map_flat (placed_item t) (λ u. map (placed_item u) items) (instances r)
      ∙ flat_map_same (λ u. map (placed_item t) (map (placed_item u) items))
      (λ u. map (placed_item (placed_again t u)) items) (λ u. items_again t u items)
      (instances r)
      ∙ sym (flat_map-map (λ u. map (placed_item u) items) (placed_again t) (instances r))
      ∙ ap (λ ts. flat_map (λ u. map (placed_item u) items) ts) (sym instances_placed)
