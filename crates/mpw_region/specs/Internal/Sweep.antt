-- The sweep: the boxes that have a row, as it goes up from border to border.
use Rattle.std.specs.Prelude.{ℤ, ◌≤ℤ◌, ◌<ℤ◌, ◌≤◌, List, All, AllPairs, Contains, take, length}
use Rattle.mpw_geom.specs.declared.plane.Box2.{Box2}
use Rattle.mpw_region.specs.declared.sweep.Sweep.{Sweep}

-- the box has the row
abbrev pub HasRow : Box2 → ℤ → Type 0
HasRow b j = (b.y0 ≤ℤ j) × (j <ℤ b.y1)

-- the list has exactly those of the boxes that have P
pub record HoldsJust (boxes : List Box2) (P : Box2 → Type 0) (list : List Box2) : Type 0 where
  pub sound : (b : Box2) → Contains list b → Contains boxes b × P b
  pub complete : (b : Box2) → Contains boxes b → P b → Contains list b

-- the first box begins no higher, or no further to the right
abbrev pub BeginsBelow : Box2 → Box2 → Type 0
BeginsBelow a b = a.y0 ≤ℤ b.y0

abbrev pub BeginsLeft : Box2 → Box2 → Type 0
BeginsLeft a b = a.x0 ≤ℤ b.x0

-- the least of the row and the rows at which the boxes end
pub record IsLeastEnd (boxes : List Box2) (row least : ℤ) : Type 0 where
  pub most : least ≤ℤ row
  pub ends : All (λ b. least ≤ℤ b.y1) boxes
  pub above : (low : ℤ) → low <ℤ row → All (λ b. low <ℤ b.y1) boxes → low <ℤ least

-- the boxes are sorted by their lowest rows; of those that the sweep has reached, the list has those that end above its row
pub record IsSweep (s : Sweep) : Type 0 where
  pub within : s.next ≤ length s.boxes.items
  pub ordered : AllPairs BeginsBelow s.boxes.items
  pub begun : All (λ b. b.y0 ≤ℤ s.row) (take s.next s.boxes.items)
  pub active : HoldsJust (take s.next s.boxes.items) (λ b. s.row <ℤ b.y1) s.active.items
