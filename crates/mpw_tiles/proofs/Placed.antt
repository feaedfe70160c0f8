-- Placed rectangles, cut to the plane.
use Rattle.std.proofs.Common.{◌≡◌, ◌^◌, ℤ, pos, neg_ℤ, ◌≤ℤ◌, ◌<ℤ◌, ◌∙◌, arith}
use Rattle.std.specs.Int.{int_min, int_max}
use Rattle.std.proofs.lemmas.Int.{ints, clamps}
use Rattle.mpw_geom.specs.declared.plane.Box2.{Box2}
use Rattle.mpw_geom.specs.declared.plane.Point.{Point}
use Rattle.mpw_geom.specs.declared.placing.Placing.{Placing}
use Rattle.mpw_geom.specs.Plane.{Square, IsOrdered, IsBoxInPlane, has_square, box_between}
use Rattle.mpw_geom.specs.Placing.{placed_point, placed_square}
use Rattle.mpw_geom.proofs.Tests.{same_squares}
use Rattle.mpw_geom.proofs.Turns.{placed_squares_at}
use Rattle.mpw_tiles.specs.Placed.{IsSquareInPlane, nearest}
use Rattle.mpw_tiles.specs.Internal.Placed.{nearest_point}

abbrev far : ℤ
far = pos (2 ^ 48)

low_in : (a b i : ℤ) → neg_ℤ far ≤ℤ i → i <ℤ far → int_min (nearest a) (nearest b) ≤ℤ i
    → int_min a b ≤ℤ i
low_in a b i l u h = omega (arith, ints, clamps)

low_out : (a b i : ℤ) → neg_ℤ far ≤ℤ i → i <ℤ far → int_min a b ≤ℤ i
    → int_min (nearest a) (nearest b) ≤ℤ i
low_out a b i l u h = omega (arith, ints, clamps)

high_in : (a b i : ℤ) → neg_ℤ far ≤ℤ i → i <ℤ far → i <ℤ int_max (nearest a) (nearest b)
    → i <ℤ int_max a b
high_in a b i l u h = omega (arith, ints, clamps)

high_out : (a b i : ℤ) → neg_ℤ far ≤ℤ i → i <ℤ far → i <ℤ int_max a b
    → i <ℤ int_max (nearest a) (nearest b)
high_out a b i l u h = omega (arith, ints, clamps)

clipped : (p q : Point) (s : Square) → IsSquareInPlane s
    → has_square (box_between (nearest_point p) (nearest_point q)) s ≡ has_square (box_between p q)
    s
unfolding box_between
clipped p q s k =
    same_squares (box_between (nearest_point p) (nearest_point q)) (box_between p q) s s
    (λ h. record {
      left = low_in p.x q.x s.column k.left k.right h.left;
      right = high_in p.x q.x s.column k.left k.right h.right;
      bottom = low_in p.y q.y s.row
          k.bottom k.top h.bottom;
      top = high_in p.y q.y s.row k.bottom k.top h.top;
    })
    (λ h. record {
      left = low_out p.x q.x s.column k.left k.right h.left;
      right = high_out p.x q.x s.column k.left k.right h.right;
      bottom = low_out p.y q.y s.row
          k.bottom k.top h.bottom;
      top = high_out p.y q.y s.row k.bottom k.top h.top;
    })

pub area_squares : (t : Placing) (b : Box2) (s : Square) (x0 y0 x1 y1 : ℤ) → x0 ≡ b.x0 → y0 ≡ b.y0
    → x1 ≡ b.x1 → y1 ≡ b.y1 → IsOrdered b → IsSquareInPlane (placed_square t s)
    → has_square (box_between (nearest_point (placed_point t (record { x = x0; y = y0 })))
    (nearest_point (placed_point t (record { x = x1; y = y1 })))) (placed_square t s)
    ≡ has_square b s
area_squares t b s x0 y0 x1 y1 e f g h o k =
    clipped (placed_point t (record { x = x0; y = y0 }))
    (placed_point t (record { x = x1; y = y1 })) (placed_square t s) k
    ∙ placed_squares_at t b s x0 y0 x1 y1 e f g h o.x o.y

pub area_in_plane : (p q : Point) → IsBoxInPlane (box_between (nearest_point p) (nearest_point q))
unfolding box_between
area_in_plane p q = record {
  x0 = record { low = omega (arith, ints, clamps); high = omega (arith, ints, clamps) };
  y0 = record { low = omega (arith, ints, clamps); high = omega (arith, ints, clamps) };
  x1 = record { low = omega (arith, ints, clamps); high = omega (arith, ints, clamps) };
  y1 = record { low = omega (arith, ints, clamps); high = omega (arith, ints, clamps) };
}

pub is_in_plane : (b : Box2) (p q p' q' : Point) → b ≡ box_between p' q' → p' ≡ nearest_point p
    → q' ≡ nearest_point q → IsBoxInPlane b
is_in_plane b p q p' q' e f g = rw (e, f, g) (area_in_plane p q)

between_ordered : (p q : Point) → IsOrdered (box_between p q)
unfolding box_between
between_ordered p q = record { x = omega (arith, ints, clamps); y = omega (arith, ints, clamps) }

pub is_ordered : (b : Box2) (p q : Point) → b ≡ box_between p q → IsOrdered b
is_ordered b p q e = rw e (between_ordered p q)
