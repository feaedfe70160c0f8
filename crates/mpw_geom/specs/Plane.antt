-- Coordinates, unit squares, and the points and squares of a box. All lengths are in nm.
use Rattle.std.specs.Prelude.{◌≤ℤ◌, ◌<ℤ◌, ◌^◌, ℕ, Bool, ◌&&◌, ℤ, pos, neg_ℤ, ◌+ℤ◌, ◌-ℤ◌, int_lt, int_le, List}
use Rattle.std.specs.List.{list_any}
use Rattle.std.specs.Int.{int_min, int_max}
use Rattle.mpw_geom.specs.declared.plane.Box2.{Box2}
use Rattle.mpw_geom.specs.declared.plane.Point.{Point}

-- a coordinate that a caller may pass: -2^48 to 2^48
pub record IsCoordinate (z : ℤ) : Type 0 where
  pub low : neg_ℤ (pos (2 ^ 48)) ≤ℤ z
  pub high : z ≤ℤ pos (2 ^ 48)

-- a point that a caller may pass
pub record IsInPlane (p : Point) : Type 0 where
  pub x : IsCoordinate p.x
  pub y : IsCoordinate p.y

-- a box that a caller may pass
pub record IsBoxInPlane (b : Box2) : Type 0 where
  pub x0 : IsCoordinate b.x0
  pub y0 : IsCoordinate b.y0
  pub x1 : IsCoordinate b.x1
  pub y1 : IsCoordinate b.y1

-- the first corner of the box is the lower left one
pub record IsOrdered (b : Box2) : Type 0 where
  pub x : b.x0 ≤ℤ b.x1
  pub y : b.y0 ≤ℤ b.y1

-- the box has some unit square
pub record HasArea (b : Box2) : Type 0 where
  pub width : b.x0 <ℤ b.x1
  pub height : b.y0 <ℤ b.y1

-- the unit square from (column, row) to (column + 1, row + 1)
pub record Square : Type 0 where
  pub column : ℤ
  pub row : ℤ

-- the closed box has the point
unfoldable pub has_point : Box2 → Point → Bool
has_point b p = int_le b.x0 p.x && int_le p.x b.x1 && int_le b.y0 p.y && int_le p.y b.y1

-- the unit square lies in the box
unfoldable pub has_square : Box2 → Square → Bool
has_square b s =
    int_le b.x0 s.column && int_lt s.column b.x1 && int_le b.y0 s.row && int_lt s.row b.y1

-- some box of the list has the unit square
unfoldable pub any_has_square : List Box2 → Square → Bool
any_has_square boxes s = list_any (λ b. has_square b s) boxes

-- the closed unit square as a box
unfoldable pub closed_square : Square → Box2
closed_square s = record {
  x0 = s.column;
  y0 = s.row;
  x1 = s.column +ℤ pos 1;
  y1 = s.row +ℤ pos 1;
}

-- the least box that contains both
abbrev pub joined : Box2 → Box2 → Box2
joined a b = record {
  x0 = int_min a.x0 b.x0;
  y0 = int_min a.y0 b.y0;
  x1 = int_max a.x1 b.x1;
  y1 = int_max a.y1 b.y1;
}

-- the box, extended by a number of nm on each side
abbrev pub widened : Box2 → ℕ → Box2
widened b n =
    record { x0 = b.x0 -ℤ pos n; y0 = b.y0 -ℤ pos n; x1 = b.x1 +ℤ pos n; y1 = b.y1 +ℤ pos n }

-- the intersection of both boxes; if they share no point, its corners are out of order
abbrev pub intersection : Box2 → Box2 → Box2
intersection a b = record {
  x0 = int_max a.x0 b.x0;
  y0 = int_max a.y0 b.y0;
  x1 = int_min a.x1 b.x1;
  y1 = int_min a.y1 b.y1;
}

-- the box that consists of the point
abbrev pub box_at : Point → Box2
box_at p = record { x0 = p.x; y0 = p.y; x1 = p.x; y1 = p.y }

-- the box that has the two points as opposite corners
unfoldable pub box_between : Point → Point → Box2
box_between p q = joined (box_at p) (box_at q)
