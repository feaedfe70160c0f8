-- How the origins of boxes are found.
use Rattle.std.specs.Prelude.{◌≡◌, ◌≤ℤ◌, ◌<◌, ℕ, true, List, [], length, slice_index_or, Contains, ◌⊎◌, ◌↔◌}
use Rattle.mpw_geom.specs.declared.plane.Box2.{Box2}
use Rattle.mpw_geom.specs.declared.plane.Point.{Point}
use Rattle.mpw_geom.specs.Plane.{IsOrdered, has_point}
use Rattle.mpw_markers.specs.Met.{IsAscending}
use Rattle.mpw_markers.specs.declared.search.Rectangle.{Rectangle}
use Rattle.mpw_markers.specs.declared.search.Item.{Item}

-- the closed boxes share a point
abbrev pub SharePoint : Box2 → Box2 → Type 0
SharePoint a b = (p : Point) × (has_point a p ≡ true) × (has_point b p ≡ true)

-- some rectangle of that origin shares a point with the box
abbrev pub IsMetBy : List Rectangle → Box2 → ℕ → Type 0
IsMetBy rectangles b origin =
    (r : Rectangle) × Contains rectangles r × (r.origin ≡ origin) × SharePoint r.area b

-- the origin is one of those, or is touched by the rectangles
abbrev pub IsAnswer : List ℕ → List Rectangle → Box2 → ℕ → Type 0
IsAnswer common rectangles b origin = Contains common origin ⊎ IsMetBy rectangles b origin

-- the numbers are the answers, in order
pub record Answers (common : List ℕ) (rectangles : List Rectangle) (b : Box2) (numbers : List ℕ) :
    Type 0 where
  pub ascending : IsAscending numbers
  pub exact : (origin : ℕ) → Contains numbers origin ↔ IsAnswer common rectangles b origin

-- the box lies in the other
pub record IsWithin (b hull : Box2) : Type 0 where
  pub left : hull.x0 ≤ℤ b.x0
  pub right : b.x1 ≤ℤ hull.x1
  pub bottom : hull.y0 ≤ℤ b.y0
  pub top : b.y1 ≤ℤ hull.y1

-- the two have the same answers for each box in the hull
abbrev pub AreAlikeIn : Box2 → (common other : List ℕ) → (rectangles others : List Rectangle)
    → Type 0
AreAlikeIn hull common other rectangles others =
    (b : Box2) (origin : ℕ) → IsOrdered b → IsWithin b hull → IsAnswer other others b origin
    ↔ IsAnswer common rectangles b origin

-- a box that waits for its answer, and the answer's index
abbrev pub CanBeFilled : ℕ → List Item → Type 0
CanBeFilled count items = (i : Item) → Contains items i → (i.place < count) × IsOrdered i.area

-- the answers of the items are at their indices, and nothing else was changed
pub record Fills (common : List ℕ) (rectangles : List Rectangle) (items : List Item)
    (old new : List (List ℕ)) : Type 0 where
  pub count : length new ≡ length old
  pub changed : (k : ℕ)
      → (slice_index_or new k [] ≡ slice_index_or old k [])
      ⊎ ((i : Item) × Contains items i × (i.place ≡ k)
      × Answers common rectangles i.area (slice_index_or new k []))
  pub filled : (i : Item) → Contains items i
      → (j : Item) × Contains items j × (j.place ≡ i.place)
      × Answers common rectangles j.area (slice_index_or new i.place [])

-- each box with its index, and no others
pub record AreItemsOf (boxes : List Box2) (items : List Item) : Type 0 where
  pub complete : (k : ℕ) (d : Box2) → k < length boxes → (i : Item) × Contains items i
      × (i.place ≡ k)
  pub sound : (i : Item) → Contains items i → (i.place < length boxes)
      × ((d : Box2) → slice_index_or boxes i.place d ≡ i.area)
