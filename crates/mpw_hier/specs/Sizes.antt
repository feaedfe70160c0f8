-- The size of a structure: how many flat shapes, how many levels, and the least box, up to the limits.
use Rattle.std.specs.Prelude.{◌≡◌, ◌+◌, ◌^◌, ℕ, min, true, List, length, Option, IfSome}
use Rattle.mpw_geom.specs.declared.plane.Box2.{Box2}
use Rattle.mpw_hier.specs.declared.size.Size.{Size}
use Rattle.mpw_hier.specs.Items.{Item}
use Rattle.mpw_hier.specs.Boxes.{extent_of, is_box_near}

-- Shapes, levels and the least box, whatever the limits.
pub record Total : Type 0 where
  pub count : ℕ
  pub levels : ℕ
  pub extent : Option Box2

-- The extent, if there is one, lies within 2^30 nm.
abbrev pub IsExtentNear : Option Box2 → Type 0
IsExtentNear extent = IfSome extent (λ box. is_box_near box ≡ true)

-- A size represents a total: a count beyond 2^40 as 2^40 + 1, and levels beyond 64 as 65.
pub record IsToldBy (total : Total) (size : Size) : Type 0 where
  pub count : size.count ≡ min (2 ^ 40 + 1) total.count
  pub height : size.height ≡ min 65 total.levels
  pub extent : size.extent ≡ total.extent
  pub near : IsExtentNear size.extent

-- The total of a flat list, given its levels.
abbrev pub total_of : List Item → ℕ → Total
total_of items levels = record { count = length items; levels = levels; extent = extent_of items }

-- The size of a flat list, given its levels.
abbrev pub IsSizeOf : List Item → ℕ → Size → Type 0
IsSizeOf items levels size = IsToldBy (total_of items levels) size
