-- The unit squares of a boundary (GDSII Stream release 6, BOUNDARY and BOX): those of winding number other than 0.
use Rattle.std.specs.Prelude.{ℕ, ◌+◌, Bool, not, ◌&&◌, if◌then◌else◌, ℤ, pos, ◌-ℤ◌, int_le, int_lt, List, [], ◌∷◌}
use Rattle.std.specs.Ordering.{int_eq}
use Rattle.mpw_geom.specs.declared.plane.Point.{Point}
use Rattle.mpw_geom.specs.Plane.{Square}
use Rattle.mpw_structures.specs.Element.{closed}

-- the step from p to q goes up across the square's row, at the square's column or left of it
unfoldable pub rises_across : Square → Point → Point → Bool
rises_across s p q = int_le p.x s.column && (int_le p.y s.row && int_lt s.row q.y)

-- how many steps from a point to the next pass the test
unfoldable pub count_steps : (Point → Point → Bool) → List Point → ℕ
count_steps test [] = 0
count_steps test (p ∷ []) = 0
count_steps test (p ∷ q ∷ ps) = (if test p q then 1 else 0) + count_steps test (q ∷ ps)

-- the edges of the closed boundary that go up across the square's row, left of the square, and those that go down
unfoldable pub upward : List Point → Square → ℕ
upward corners s = count_steps (λ p q. rises_across s p q) (closed corners)

unfoldable pub downward : List Point → Square → ℕ
downward corners s = count_steps (λ p q. rises_across s q p) (closed corners)

-- how often the boundary runs clockwise around the square
unfoldable pub winding : List Point → Square → ℤ
winding corners s = pos (upward corners s) -ℤ pos (downward corners s)

-- the boundary has the unit square
unfoldable pub boundary_has : List Point → Square → Bool
boundary_has corners s = not (int_eq (winding corners s) (pos 0))
