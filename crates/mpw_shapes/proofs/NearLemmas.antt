-- Points of the tests.
use Rattle.std.proofs.Common.{◌≡◌, true, List, arith, All, pos, neg_ℤ, ◌&&◌}
use Rattle.std.specs.Prelude.{int_le}
use Rattle.std.specs.List.{list_all}
use Rattle.std.proofs.lemmas.Int.{ints}
use Rattle.std.proofs.lemmas.Bool.{and_parts}
use Rattle.std.proofs.lemmas.List.Elements.{All-weaker}
use Rattle.std.proofs.lemmas.List.Sums.{AllPass-from_list_all}
use Rattle.mpw_geom.specs.declared.plane.Point.{Point}
use Rattle.mpw_geom.proofs.Tests.{le_from_test}
use Rattle.mpw_structures.specs.Element.{IsPointWithinReach}
use Rattle.mpw_shapes.specs.Internal.Near.{is_near}

near_reach : (p : Point) → is_near p ≡ true → IsPointWithinReach p
near_reach p h =
    let a = and_parts (int_le (neg_ℤ (pos 1000)) p.x && int_le p.x (pos 1000))
    (int_le (neg_ℤ (pos 1000)) p.y && int_le p.y (pos 1000)) h in
    let b = and_parts (int_le (neg_ℤ (pos 1000)) p.x) (int_le p.x (pos 1000)) a.0 in
    let c = and_parts (int_le (neg_ℤ (pos 1000)) p.y) (int_le p.y (pos 1000)) a.1 in
    let x0 = le_from_test (neg_ℤ (pos 1000)) p.x b.0 in
    let x1 = le_from_test p.x (pos 1000) b.1 in
    let y0 = le_from_test (neg_ℤ (pos 1000)) p.y c.0 in
    let y1 = le_from_test p.y (pos 1000) c.1 in
    record {
      x = record { above = omega (arith, ints); below = omega (arith, ints) };
      y = record { above = omega (arith, ints); below = omega (arith, ints) };
    }

pub all_near : (ps : List Point) → list_all is_near ps ≡ true → All IsPointWithinReach ps
all_near ps h = All-weaker (λ (p : Point). is_near p ≡ true) IsPointWithinReach near_reach ps
    (AllPass-from_list_all is_near ps h)
