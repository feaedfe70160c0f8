-- Bands of rows, as a sorted list of boxes.
use Rattle.std.specs.Prelude.{◌≡◌, ◌≤ℤ◌, ◌<ℤ◌, List, All, AllPairs, ◌⊎◌}
use Rattle.mpw_geom.specs.declared.plane.Box2.{Box2}
use Rattle.mpw_geom.specs.Plane.{HasArea}

-- the first box's rows are below the second's, or they have the same rows and the first is left of the second, with a gap
abbrev pub StandsInBands : Box2 → Box2 → Type 0
StandsInBands p q = (p.y1 ≤ℤ q.y0) ⊎ ((p.y0 ≡ q.y0) × (p.y1 ≡ q.y1) × (p.x1 <ℤ q.x0))

-- bands of rows from below, and in each band intervals from left to right that don't touch
pub record AreBands (boxes : List Box2) : Type 0 where
  pub filled : All HasArea boxes
  pub ordered : AllPairs StandsInBands boxes
