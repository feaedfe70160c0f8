-- The properties of an element that was read.
use Rattle.std.specs.Prelude.{◌≡◌, ℕ, ◌*◌, ◌^◌, ◌≤◌, ◌&&◌, ◌||◌, not, Bool, true, IsTrue, ℤ, pos, ◌<ℤ◌, List, [], ◌∷◌, ◌++◌, length, take, All, neg_ℤ}
use Rattle.std.specs.Ordering.{int_eq}
use Rattle.mpw_geom.specs.declared.plane.Point.{Point}
use Rattle.mpw_geom.specs.Name.{IsName}
use Rattle.mpw_structures.specs.declared.element.Boundary.{Boundary}
use Rattle.mpw_structures.specs.declared.element.Path.{Path}
use Rattle.mpw_structures.specs.declared.element.Reference.{Reference}
use Rattle.mpw_structures.specs.declared.element.Element.{Element}
use Rattle.mpw_structures.specs.declared.element.Element.TheVariants as elements

-- A value in nm that lies strictly between -2^48 and 2^48.
pub record IsWithinReach (z : ℤ) : Type 0 where
  pub above : neg_ℤ (pos (2 ^ 48)) <ℤ z
  pub below : z <ℤ pos (2 ^ 48)

pub record IsPointWithinReach (p : Point) : Type 0 where
  pub x : IsWithinReach p.x
  pub y : IsWithinReach p.y

abbrev pub same_point : Point → Point → Bool
same_point p q = int_eq p.x q.x && int_eq p.y q.y

-- A step that is horizontal or vertical, or of no length.
abbrev pub is_manhattan_step : Point → Point → Bool
is_manhattan_step p q = int_eq p.x q.x || int_eq p.y q.y

-- Each step from a point to the next passes the test.
abbrev pub each_step : (Point → Point → Bool) → List Point → Bool
each_step test [] = true
each_step test (p ∷ []) = true
each_step test (p ∷ q ∷ ps) = test p q && each_step test (q ∷ ps)

-- The corners with the closing edge: the first corner again after the last one.
abbrev pub closed : List Point → List Point
closed ps = ps ++ take 1 ps

-- A boundary has a corner, and each of its edges, including the closing one, is horizontal or vertical.
pub record IsBoundary (b : Boundary) : Type 0 where
  pub corners : 1 ≤ length b.points
  pub manhattan : IsTrue (each_step is_manhattan_step (closed b.points))
  pub within_reach : All IsPointWithinReach b.points

-- A segment of a centre line is horizontal or vertical, and not of length 0.
abbrev pub is_segment : Point → Point → Bool
is_segment p q = is_manhattan_step p q && not (same_point p q)

-- A path has at least one segment, and an even width.
pub record IsPath (p : Path) : Type 0 where
  pub half : ℕ
  pub width : p.width ≡ pos (2 * half)
  pub width_within_reach : IsWithinReach p.width
  pub begin_within_reach : IsWithinReach p.begin
  pub end_within_reach : IsWithinReach p.end
  pub points : 2 ≤ length p.points
  pub segments : IsTrue (each_step is_segment p.points)
  pub points_within_reach : All IsPointWithinReach p.points

-- The columns and rows of an array.
pub record IsCount (n : ℕ) : Type 0 where
  pub least : 1 ≤ n
  pub most : n ≤ 32767

-- A reference names a structure, and places it at least once.
pub record IsReference (r : Reference) : Type 0 where
  pub name : IsName r.name
  pub columns : IsCount r.columns
  pub rows : IsCount r.rows
  pub origin : IsPointWithinReach r.origin
  pub column_step : IsPointWithinReach r.column_step
  pub row_step : IsPointWithinReach r.row_step

-- The properties of an element that was read.
abbrev pub IsElement : Element → Type 0
IsElement (elements.Boundary b) = IsBoundary b
IsElement (elements.Path p) = IsPath p
IsElement (elements.Reference r) = IsReference r
