-- The tests of points and squares in a box, as inequalities.
use Rattle.std.proofs.Common.{◌≡◌, ◌≤ℤ◌, ◌<ℤ◌, Bool, true, false, refl, ℤ, arith}
use Rattle.std.specs.Prelude.{int_lt, int_le}
use Rattle.std.proofs.lemmas.Int.{ints}
use Rattle.mpw_geom.specs.declared.plane.Box2.{Box2}
use Rattle.mpw_geom.specs.declared.plane.Point.{Point}
use Rattle.mpw_geom.specs.Plane.{Square, has_point, has_square}

pub le_from_test : (a b : ℤ) → int_le a b ≡ true → a ≤ℤ b
le_from_test a b h = grind (arith, ints)

pub test_from_le : (a b : ℤ) → a ≤ℤ b → int_le a b ≡ true
test_from_le a b h = grind (arith, ints)

pub lt_from_test : (a b : ℤ) → int_lt a b ≡ true → a <ℤ b
lt_from_test a b h = grind (arith, ints)

pub test_from_lt : (a b : ℤ) → a <ℤ b → int_lt a b ≡ true
test_from_lt a b h = grind (arith, ints)

pub same_tests : (a b : Bool) → (a ≡ true → b ≡ true) → (b ≡ true → a ≡ true) → a ≡ b
same_tests true b f g = cc (f refl)
same_tests false true f g = g refl
same_tests false false f g = refl

pub record PointIn (b : Box2) (p : Point) : Type 0 where
  pub left : b.x0 ≤ℤ p.x
  pub right : p.x ≤ℤ b.x1
  pub bottom : b.y0 ≤ℤ p.y
  pub top : p.y ≤ℤ b.y1

pub record SquareIn (b : Box2) (s : Square) : Type 0 where
  pub left : b.x0 ≤ℤ s.column
  pub right : s.column <ℤ b.x1
  pub bottom : b.y0 ≤ℤ s.row
  pub top : s.row <ℤ b.y1

pub PointIn-from_test : (b : Box2) (p : Point) → has_point b p ≡ true → PointIn b p
unfolding has_point
PointIn-from_test b p h = grind (arith, ints, h)

pub test_from_PointIn : (b : Box2) (p : Point) → PointIn b p → has_point b p ≡ true
unfolding has_point
test_from_PointIn b p h = grind (arith, ints, h)

pub SquareIn-from_test : (b : Box2) (s : Square) → has_square b s ≡ true → SquareIn b s
unfolding has_square
SquareIn-from_test b s h = grind (arith, ints, h)

pub test_from_SquareIn : (b : Box2) (s : Square) → SquareIn b s → has_square b s ≡ true
unfolding has_square
test_from_SquareIn b s h = grind (arith, ints, h)

-- two boxes have the same points, or squares, if the inequalities say so both ways
pub same_points : (b c : Box2) (p q : Point) → (PointIn b p → PointIn c q)
    → (PointIn c q → PointIn b p) → has_point b p ≡ has_point c q
same_points b c p q f g =
    same_tests _ _
    (λ h. test_from_PointIn c q (f (PointIn-from_test b p h)))
    (λ h. test_from_PointIn b p (g (PointIn-from_test c q h)))

pub same_squares : (b c : Box2) (s t : Square) → (SquareIn b s → SquareIn c t)
    → (SquareIn c t → SquareIn b s) → has_square b s ≡ has_square c t
same_squares b c s t f g =
    same_tests _ _
    (λ h. test_from_SquareIn c t (f (SquareIn-from_test b s h)))
    (λ h. test_from_SquareIn b s (g (SquareIn-from_test c t h)))
