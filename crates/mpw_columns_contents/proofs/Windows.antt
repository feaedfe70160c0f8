-- What misses a window in the coordinates of a placed structure misses the window when it is placed.
use Rattle.std.proofs.Common.{◌≡◌, Bool, true, false, ◌≤ℤ◌, sym, refl, ◌∙◌, arith}
use Rattle.std.specs.Int.{int_min, int_max}
use Rattle.std.proofs.lemmas.Int.{ints, clamps}
use Rattle.std.proofs.lemmas.Bool.{and_parts}
use Rattle.mpw_geom.specs.declared.plane.Box2.{Box2}
use Rattle.mpw_geom.specs.declared.plane.Point.{Point}
use Rattle.mpw_geom.specs.declared.plane.Orient.{Orient}
use Rattle.mpw_geom.specs.declared.plane.Orient.TheVariants.{R0, R90, R180, R270, M0, M90, M180, M270}
use Rattle.mpw_geom.specs.declared.placing.Placing.{Placing}
use Rattle.mpw_geom.specs.Placing.{placed_point, oriented_point}
use Rattle.mpw_geom.specs.Plane.{IsOrdered, box_between}
use Rattle.mpw_geom.proofs.Tests.{le_from_test, test_from_le}
use Rattle.mpw_hier.specs.Boxes.{placed_box}
use Rattle.mpw_walk.specs.Window.{do_meet}
use Rattle.mpw_walk.proofs.Taken.{both}
use Rattle.mpw_columns_contents.specs.Internal.Own.{own_window}

along_x : (a w : Box2) → do_meet a w ≡ true → int_max a.x0 w.x0 ≤ℤ int_min a.x1 w.x1
unfolding do_meet
along_x a w h = le_from_test (int_max a.x0 w.x0) (int_min a.x1 w.x1) (and_parts _ _ h).0

along_y : (a w : Box2) → do_meet a w ≡ true → int_max a.y0 w.y0 ≤ℤ int_min a.y1 w.y1
unfolding do_meet
along_y a w h = le_from_test (int_max a.y0 w.y0) (int_min a.y1 w.y1) (and_parts _ _ h).1

meet_along : (a w : Box2) → int_max a.x0 w.x0 ≤ℤ int_min a.x1 w.x1
    → int_max a.y0 w.y0 ≤ℤ int_min a.y1 w.y1 → do_meet a w ≡ true
unfolding do_meet
meet_along a w x y = both _ _ (test_from_le (int_max a.x0 w.x0) (int_min a.x1 w.x1) x)
    (test_from_le (int_max a.y0 w.y0) (int_min a.y1 w.y1) y)

module _ (d : Point) (w b : Box2) (ordered : IsOrdered b) where
  abbrev at : Orient → Placing
  at o = record { orient = o; by = d }

  seen : (o : Orient) → do_meet (placed_box (at o) b) w ≡ true
      → do_meet b (own_window (at o) w) ≡ true
  unfolding placed_box box_between placed_point oriented_point
  seen R0 h =
      let x = along_x (placed_box (at R0) b) w h in let y = along_y (placed_box (at R0) b) w h in
      let p = ordered.x in let q = ordered.y in
      meet_along b (own_window (at R0) w) (omega (arith, ints, clamps, x, y, p, q))
      (omega (arith, ints, clamps, x, y, p, q))
  seen R90 h =
      let x = along_x (placed_box (at R90) b) w h in let y = along_y (placed_box (at R90) b) w h in
      let p = ordered.x in let q = ordered.y in
      meet_along b (own_window (at R90) w) (omega (arith, ints, clamps, x, y, p, q))
      (omega (arith, ints, clamps, x, y, p, q))
  seen R180 h =
      let x = along_x (placed_box (at R180) b) w h in let y = along_y (placed_box (at R180) b) w h in
      let p = ordered.x in let q = ordered.y in
      meet_along b (own_window (at R180) w) (omega (arith, ints, clamps, x, y, p, q))
      (omega (arith, ints, clamps, x, y, p, q))
  seen R270 h =
      let x = along_x (placed_box (at R270) b) w h in let y = along_y (placed_box (at R270) b) w h in
      let p = ordered.x in let q = ordered.y in
      meet_along b (own_window (at R270) w) (omega (arith, ints, clamps, x, y, p, q))
      (omega (arith, ints, clamps, x, y, p, q))
  seen M0 h =
      let x = along_x (placed_box (at M0) b) w h in let y = along_y (placed_box (at M0) b) w h in
      let p = ordered.x in let q = ordered.y in
      meet_along b (own_window (at M0) w) (omega (arith, ints, clamps, x, y, p, q))
      (omega (arith, ints, clamps, x, y, p, q))
  seen M90 h =
      let x = along_x (placed_box (at M90) b) w h in let y = along_y (placed_box (at M90) b) w h in
      let p = ordered.x in let q = ordered.y in
      meet_along b (own_window (at M90) w) (omega (arith, ints, clamps, x, y, p, q))
      (omega (arith, ints, clamps, x, y, p, q))
  seen M180 h =
      let x = along_x (placed_box (at M180) b) w h in let y = along_y (placed_box (at M180) b) w h in
      let p = ordered.x in let q = ordered.y in
      meet_along b (own_window (at M180) w) (omega (arith, ints, clamps, x, y, p, q))
      (omega (arith, ints, clamps, x, y, p, q))
  seen M270 h =
      let x = along_x (placed_box (at M270) b) w h in let y = along_y (placed_box (at M270) b) w h in
      let p = ordered.x in let q = ordered.y in
      meet_along b (own_window (at M270) w) (omega (arith, ints, clamps, x, y, p, q))
      (omega (arith, ints, clamps, x, y, p, q))

  pub missed_placed : (o : Orient) → do_meet b (own_window (at o) w) ≡ false
      → do_meet (placed_box (at o) b) w ≡ false
  missed_placed o missed = go (do_meet (placed_box (at o) b) w) refl
    where
      go : (x : Bool) → do_meet (placed_box (at o) b) w ≡ x → x ≡ false
      go false e = refl
      go true e = sym (seen o e) ∙ missed
