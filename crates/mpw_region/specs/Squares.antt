-- The squares of a list of boxes, as a test of a column and a row.
use Rattle.std.specs.Prelude.{ℤ, Bool, List}
use Rattle.mpw_geom.specs.declared.plane.Box2.{Box2}
use Rattle.mpw_geom.specs.Plane.{any_has_square}

-- some box of the list has the unit square in column i and row j
abbrev pub covers : List Box2 → ℤ → ℤ → Bool
covers boxes i j = any_has_square boxes (record { column = i; row = j })
