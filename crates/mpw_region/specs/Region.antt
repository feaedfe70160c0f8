-- What a region stores in addition to its boxes.
use Rattle.std.specs.Prelude.{◌≡◌, ℤ, List}
use Rattle.mpw_geom.specs.declared.plane.Box2.{Box2}
use Rattle.mpw_region.specs.Squares.{covers}
use Rattle.mpw_region.specs.Banded.{AreBands}

-- bands of the same squares with their coordinates exchanged
pub record AreColumnsOf (boxes columns : List Box2) : Type 0 where
  pub squares : (i j : ℤ) → covers columns i j ≡ covers boxes j i
  pub banded : AreBands columns

-- bands, and bands of the exchanged squares
pub record IsRegion (boxes exchanged : List Box2) : Type 0 where
  pub banded : AreBands boxes
  pub columns : AreColumnsOf boxes exchanged
