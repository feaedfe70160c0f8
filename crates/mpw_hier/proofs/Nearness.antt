-- Boxes that lie within 2^30 nm.
use Rattle.std.proofs.Common.{◌≡◌, ◌^◌, Bool, true, false, ◌&&◌, ℤ, pos, neg_ℤ, ◌≤ℤ◌, Option, Some, None, refl, sym, ◌∙◌, arith}
use Rattle.std.specs.Prelude.{int_le}
use Rattle.std.proofs.lemmas.Bool.{false_from_ne_true, false≢true}
use Rattle.std.proofs.lemmas.Int.{ints, clamps}
use Rattle.mpw_geom.specs.declared.plane.Box2.{Box2}
use Rattle.mpw_geom.specs.Plane.{IsOrdered, joined}
use Rattle.mpw_hier.specs.Boxes.{hull, is_near, is_box_near}
use Rattle.mpw_hier.specs.Sizes.{IsExtentNear}
use Rattle.mpw_hier.specs.Internal.Sizes.{IsExtentFar}

pub record Close (z : ℤ) : Type 0 where
  pub above : neg_ℤ (pos (2 ^ 30)) ≤ℤ z
  pub below : z ≤ℤ pos (2 ^ 30)

pub record IsClose (b : Box2) : Type 0 where
  pub x0 : Close b.x0
  pub y0 : Close b.y0
  pub x1 : Close b.x1
  pub y1 : Close b.y1

and_both : (a b : Bool) → (a && b) ≡ true → (a ≡ true) × (b ≡ true)
and_both true b e = (refl, e)
and_both false b e = absurd (false≢true e)

both_and : (a b : Bool) → a ≡ true → b ≡ true → (a && b) ≡ true
both_and a b e f = rw (e, f) refl

close : (z : ℤ) → is_near z ≡ true → Close z
close z e =
    let h = and_both (int_le (neg_ℤ (pos (2 ^ 30))) z) (int_le z (pos (2 ^ 30))) e in
    record { above = grind (arith, ints); below = grind (arith, ints) }

near : (z : ℤ) → Close z → is_near z ≡ true
near z h =
    let p : int_le (neg_ℤ (pos (2 ^ 30))) z ≡ true = grind (arith, ints) in
    let q : int_le z (pos (2 ^ 30)) ≡ true = grind (arith, ints) in
    both_and _ _ p q

pub close_box : (b : Box2) → is_box_near b ≡ true → IsClose b
unfolding is_box_near
close_box b e =
    let p = and_both ((is_near b.x0 && is_near b.y0) && is_near b.x1) (is_near b.y1) e in
    let q = and_both (is_near b.x0 && is_near b.y0) (is_near b.x1) p.0 in
    let r = and_both (is_near b.x0) (is_near b.y0) q.0 in
    record { x0 = close b.x0 r.0; y0 = close b.y0 r.1; x1 = close b.x1 q.1; y1 = close b.y1 p.1 }

pub near_box : (b : Box2) → IsClose b → is_box_near b ≡ true
unfolding is_box_near
near_box b h = both_and _ _ (both_and _ _ (both_and _ _ (near b.x0 h.x0) (near b.y0 h.y0))
    (near b.x1 h.x1)) (near b.y1 h.y1)

pub near_joined : (a b : Box2) → is_box_near a ≡ true → is_box_near b ≡ true
    → is_box_near (joined a b) ≡ true
near_joined a b e f =
    let h = close_box a e in
    let k = close_box b f in
    near_box (joined a b) (record {
      x0 = record { above = omega (arith, ints, clamps); below = omega (arith, ints, clamps) };
      y0 = record { above = omega (arith, ints, clamps); below = omega (arith, ints, clamps) };
      x1 = record { above = omega (arith, ints, clamps); below = omega (arith, ints, clamps) };
      y1 = record { above = omega (arith, ints, clamps); below = omega (arith, ints, clamps) };
    })

within_joined : (a b : Box2) → IsOrdered a → IsClose (joined a b) → IsClose a
within_joined a b o h = record {
  x0 = record { above = omega (arith, ints, clamps); below = omega (arith, ints, clamps) };
  y0 = record { above = omega (arith, ints, clamps); below = omega (arith, ints, clamps) };
  x1 = record { above = omega (arith, ints, clamps); below = omega (arith, ints, clamps) };
  y1 = record { above = omega (arith, ints, clamps); below = omega (arith, ints, clamps) };
}

pub far_joined : (a b : Box2) → IsOrdered a → is_box_near a ≡ false
    → is_box_near (joined a b) ≡ false
far_joined a b o e =
    false_from_ne_true (is_box_near (joined a b))
    (λ t. false≢true (sym e ∙ near_box a (within_joined a b o (close_box (joined a b) t))))

pub near_hull : (a b : Option Box2) → IsExtentNear a → IsExtentNear b → IsExtentNear (hull a b)
near_hull None b h k = k
near_hull (Some a) None h k = h
near_hull (Some a) (Some b) h k = near_joined a b h k

pub far_hull : (a : Box2) (b : Option Box2) → IsOrdered a → is_box_near a ≡ false
    → IsExtentFar (hull (Some a) b)
far_hull a None o e = record { box = a; is = refl; far = e }
far_hull a (Some b) o e = record { box = joined a b; is = refl; far = far_joined a b o e }
