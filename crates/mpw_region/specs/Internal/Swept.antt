-- What the bands below a row cover.
use Rattle.std.specs.Prelude.{ℤ, ◌≤ℤ◌, ◌<ℤ◌, List, All, AllPairs, Contains, drop, ◌⊎◌, ◌↔◌}
use Rattle.std.specs.Int.{int_max}
use Rattle.mpw_geom.specs.declared.plane.Box2.{Box2}
use Rattle.mpw_geom.specs.Plane.{HasArea}
use Rattle.mpw_region.specs.declared.merge.Rows.{Rows}
use Rattle.mpw_region.specs.declared.sweep.Sweep.{Sweep}
use Rattle.mpw_region.specs.Banded.{AreBands}
use Rattle.mpw_region.specs.Internal.Sweep.{HasRow, HoldsJust, BeginsLeft, IsSweep}

-- the box has the square in column i and row j
abbrev pub HoldsSquare : Box2 → ℤ → ℤ → Type 0
HoldsSquare b i j = (b.x0 ≤ℤ i) × (i <ℤ b.x1) × (b.y0 ≤ℤ j) × (j <ℤ b.y1)

-- some box of the list has it
abbrev pub IsCovered : List Box2 → ℤ → ℤ → Type 0
IsCovered boxes i j = (b : Box2) × Contains boxes b × HoldsSquare b i j

-- some box of the list has the column
abbrev pub HasColumn : List Box2 → ℤ → Type 0
HasColumn boxes i = (b : Box2) × Contains boxes b × ((b.x0 ≤ℤ i) × (i <ℤ b.x1))

-- the square lies in the rows, in a column of the boxes
abbrev pub IsInBand : Rows → List Box2 → ℤ → ℤ → Type 0
IsInBand rows boxes i j = ((rows.y0 ≤ℤ j) × (j <ℤ rows.y1)) × HasColumn boxes i

-- the columns of the box in the rows
abbrev pub interval_of : Box2 → Rows → Box2
interval_of b rows = record { x0 = b.x0; y0 = rows.y0; x1 = b.x1; y1 = rows.y1 }

-- the first box, extended to the end of the second
abbrev pub lengthened : Box2 → Box2 → Box2
lengthened a b = record { x0 = a.x0; y0 = a.y0; x1 = int_max a.x1 b.x1; y1 = a.y1 }

-- to bands below the rows the band of the rows was added, with exactly the columns of the boxes
pub record AddsBand (old new boxes : List Box2) (rows : Rows) : Type 0 where
  pub squares : (i j : ℤ) → IsCovered new i j ↔ (IsCovered old i j ⊎ IsInBand rows boxes i j)
  pub banded : AreBands new
  pub below : All (λ b. b.y1 ≤ℤ rows.y1) new

-- no border of the box lies between the rows
abbrev pub HasNoBorderWithin : Rows → Box2 → Type 0
HasNoBorderWithin rows b =
    ((b.y0 ≤ℤ rows.y0) ⊎ (rows.y1 ≤ℤ b.y0)) × ((b.y1 ≤ℤ rows.y0) ⊎ (rows.y1 ≤ℤ b.y1))

-- bands that have exactly the squares of the boxes below the row
pub record IsSweptTo (boxes out : List Box2) (row : ℤ) : Type 0 where
  pub squares : (i j : ℤ) → IsCovered out i j ↔ (IsCovered boxes i j × (j <ℤ row))
  pub banded : AreBands out
  pub below : All (λ b. b.y1 ≤ℤ row) out

-- A sweep that has reached all borders up to its row, and bands that have exactly the squares below it.
pub record SweepsUp (s : Sweep) (out : List Box2) : Type 0 where
  pub sweeps : IsSweep s
  pub ahead : All (λ b. s.row <ℤ b.y0) (drop s.next s.boxes.items)
  pub exact : HoldsJust s.boxes.items (λ b. HasRow b s.row) s.active.items
  pub ordered : AllPairs BeginsLeft s.active.items
  pub filled : All HasArea s.boxes.items
  pub swept : IsSweptTo s.boxes.items out s.row
