-- Closed boxes share a point.
use Rattle.std.proofs.Common.{◌≡◌, true, ℤ, w64, to_z, of_z, SFits, arith, IsTrue, refl}
use Rattle.std.specs.Prelude.{int_le}
use Rattle.std.specs.Int.{int_min, int_max}
use Rattle.std.proofs.lemmas.Int.{ints, clamps, to_z-of_z}
use Rattle.mpw_geom.specs.declared.plane.Box2.{Box2}
use Rattle.mpw_geom.specs.declared.plane.Point.{Point}
use Rattle.mpw_geom.specs.Plane.{has_point}
use Rattle.mpw_geom.proofs.Tests.{le_from_test, test_from_le, PointIn-from_test, test_from_PointIn}

-- the greatest of the lower ends is in both spans, if it isn't past the least of the upper ends
pub common_point : (b c : Box2) → int_le (int_max b.x0 c.x0) (int_min b.x1 c.x1) ≡ true
    → int_le (int_max b.y0 c.y0) (int_min b.y1 c.y1) ≡ true → (p : Point) × IsTrue (has_point b p)
    × IsTrue (has_point c p)
common_point b c u v =
    let h = le_from_test (int_max b.x0 c.x0) (int_min b.x1 c.x1) u in
    let k = le_from_test (int_max b.y0 c.y0) (int_min b.y1 c.y1) v in
    let p : Point = record { x = int_max b.x0 c.x0; y = int_max b.y0 c.y0 } in (
      p,
      test_from_PointIn b p (record {
        left = omega (arith, ints, clamps);
        right = omega (arith, ints, clamps);
        bottom = omega (arith, ints, clamps);
        top = omega (arith, ints, clamps);
      }),
      test_from_PointIn c p (record {
        left = omega (arith, ints, clamps);
        right = omega (arith, ints, clamps);
        bottom = omega (arith, ints, clamps);
        top = omega (arith, ints, clamps);
      }),
    )

pub spans_from_point : (b c : Box2)
    → ((p : Point) × IsTrue (has_point b p) × IsTrue (has_point c p))
    → (int_le (int_max b.x0 c.x0) (int_min b.x1 c.x1) ≡ true)
    × (int_le (int_max b.y0 c.y0) (int_min b.y1 c.y1) ≡ true)
spans_from_point b c h =
    let i = PointIn-from_test b h.0 h.1 in
    let j = PointIn-from_test c h.0 h.2 in (
      test_from_le (int_max b.x0 c.x0) (int_min b.x1 c.x1) (omega (arith, ints, clamps)),
      test_from_le (int_max b.y0 c.y0) (int_min b.y1 c.y1) (omega (arith, ints, clamps)),
    )

-- two spans touch if the greater of their lower ends isn't past the lesser of their upper ends, as the code computes it
pub spans_meet : (a b c d low high : ℤ) → SFits w64 a → SFits w64 b → SFits w64 c → SFits w64 d
    → SFits w64 low → SFits w64 high
    → low ≡ int_max (to_z w64 (of_z w64 a)) (to_z w64 (of_z w64 b))
    → high ≡ int_min (to_z w64 (of_z w64 c)) (to_z w64 (of_z w64 d))
    → int_le (to_z w64 (of_z w64 low)) (to_z w64 (of_z w64 high))
    ≡ int_le (int_max a b) (int_min c d)
spans_meet a b c d low high f g h k l m least most =
    rw (
      to_z-of_z w64 low l,
      to_z-of_z w64 high m,
      least,
      most,
      to_z-of_z w64 a f,
      to_z-of_z w64 b g,
      to_z-of_z w64 c h,
      to_z-of_z w64 d k,
    ) refl
