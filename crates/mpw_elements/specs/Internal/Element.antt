-- For private functions and proofs: the properties of an element that was read.
use Rattle.std.specs.Prelude.{◌≡◌, ℕ, ◌*◌, ◌≤◌, IsTrue, ℤ, pos, List, length, All}
use Rattle.mpw_geom.specs.declared.plane.Point.{Point}
use Rattle.mpw_structures.specs.Element.{IsWithinReach, IsPointWithinReach, is_manhattan_step, each_step, closed, is_segment}
use Rattle.mpw_elements.specs.declared.path.Breadth.{Breadth}

-- Corners: at least one, and each edge, including the closing one, is horizontal or vertical.
pub record IsRing (ps : List Point) : Type 0 where
  pub corners : 1 ≤ length ps
  pub manhattan : IsTrue (each_step is_manhattan_step (closed ps))
  pub within_reach : All IsPointWithinReach ps

-- A centre line has at least one segment.
pub record IsLine (ps : List Point) : Type 0 where
  pub points : 2 ≤ length ps
  pub segments : IsTrue (each_step is_segment ps)
  pub within_reach : All IsPointWithinReach ps

-- A width in nm: not negative, and even.
pub record IsWidth (z : ℤ) : Type 0 where
  pub half : ℕ
  pub value : z ≡ pos (2 * half)
  pub within_reach : IsWithinReach z

-- The width of a path, and the extensions of its ends.
pub record IsBreadth (b : Breadth) : Type 0 where
  pub width : IsWidth b.width
  pub begin : IsWithinReach b.begin
  pub end : IsWithinReach b.end
