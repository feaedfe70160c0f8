-- Boxes that reach across a window, by their rows.
use Rattle.std.specs.Prelude.{ℤ, ◌≤ℤ◌, ◌<ℤ◌, List, Contains}
use Rattle.mpw_geom.specs.declared.plane.Box2.{Box2}
use Rattle.mpw_region.specs.declared.runs.Run.{Run}

-- some run of the list has the row, on any line
abbrev pub HasRowIn : List Run → ℤ → Type 0
HasRowIn runs j = (r : Run) × Contains runs r × ((r.from ≤ℤ j) × (j <ℤ r.to))

-- the square lies in a column of the window and a row of the runs
abbrev pub IsAcross : Box2 → List Run → ℤ → ℤ → Type 0
IsAcross window runs i j = ((window.x0 ≤ℤ i) × (i <ℤ window.x1)) × HasRowIn runs j
