-- Placing a structure (GDSII Stream release 6, STRANS, ANGLE and XY of a structure reference): mirror about the x
-- axis, then quarter turns counterclockwise, then a displacement.
use Rattle.std.specs.Prelude.{◌≡◌, ℕ, zero, suc, Bool, true, false, pos, neg_ℤ, ◌+ℤ◌, ◌-ℤ◌, if◌then◌else◌}
use Rattle.mpw_geom.specs.declared.plane.Orient.{Orient}
use Rattle.mpw_geom.specs.declared.plane.Orient.TheVariants.{R0, R90, R180, R270, M0, M90, M180, M270}
use Rattle.mpw_geom.specs.declared.plane.Point.{Point}
use Rattle.mpw_geom.specs.declared.placing.Placing.{Placing}
use Rattle.mpw_geom.specs.Plane.{Square, closed_square, has_point}

-- the orientation begins with the mirror
abbrev pub is_mirrored : Orient → Bool
is_mirrored R0 = false
is_mirrored R90 = false
is_mirrored R180 = false
is_mirrored R270 = false
is_mirrored M0 = true
is_mirrored M90 = true
is_mirrored M180 = true
is_mirrored M270 = true

-- the quarter turns that follow
abbrev pub quarter_turns : Orient → ℕ
quarter_turns R0 = 0
quarter_turns R90 = 1
quarter_turns R180 = 2
quarter_turns R270 = 3
quarter_turns M0 = 0
quarter_turns M90 = 1
quarter_turns M180 = 2
quarter_turns M270 = 3

-- `turn` applied n times
abbrev pub times : {A : Type 0} → (A → A) → ℕ → A → A
times turn zero a = a
times turn (suc n) a = turn (times turn n a)

-- a mirror and a turn, in the order of an orientation
abbrev pub by_orient : {A : Type 0} → (A → A) → (A → A) → Orient → A → A
by_orient mirror turn o a = times turn (quarter_turns o) (if is_mirrored o then mirror a else a)

-- the orientation that undoes another one: a quarter turn is undone by the opposite one, and the others undo themselves
abbrev pub undoing : Orient → Orient
undoing R0 = R0
undoing R90 = R270
undoing R180 = R180
undoing R270 = R90
undoing M0 = M0
undoing M90 = M90
undoing M180 = M180
undoing M270 = M270

-- on points: the mirror about the x axis, and the quarter turn that takes (x, y) to (-y, x)
abbrev pub mirrored_point : Point → Point
mirrored_point p = record { x = p.x; y = neg_ℤ p.y }

abbrev pub turned_point : Point → Point
turned_point p = record { x = neg_ℤ p.y; y = p.x }

abbrev pub moved_point : Point → Point → Point
moved_point d p = record { x = p.x +ℤ d.x; y = p.y +ℤ d.y }

unfoldable pub oriented_point : Orient → Point → Point
oriented_point o p = by_orient mirrored_point turned_point o p

unfoldable pub placed_point : Placing → Point → Point
placed_point t p = moved_point t.by (oriented_point t.orient p)

-- on unit squares: the mirror takes the rows [j, j + 1) to [-j - 1, -j), and so does the turn before it exchanges rows and columns
abbrev pub mirrored_square : Square → Square
mirrored_square s = record { column = s.column; row = neg_ℤ s.row -ℤ pos 1 }

abbrev pub turned_square : Square → Square
turned_square s = record { column = neg_ℤ s.row -ℤ pos 1; row = s.column }

abbrev pub moved_square : Point → Square → Square
moved_square d s = record { column = s.column +ℤ d.x; row = s.row +ℤ d.y }

unfoldable pub oriented_square : Orient → Square → Square
oriented_square o s = by_orient mirrored_square turned_square o s

unfoldable pub placed_square : Placing → Square → Square
placed_square t s = moved_square t.by (oriented_square t.orient s)

-- the points of a placed closed unit square are the placed points of the closed unit square
abbrev pub PlacedSquaresHavePlacedPoints : Type 0
PlacedSquaresHavePlacedPoints = (t : Placing) (s : Square) (p : Point)
    → has_point (closed_square (placed_square t s)) (placed_point t p) ≡ has_point (closed_square s)
    p
