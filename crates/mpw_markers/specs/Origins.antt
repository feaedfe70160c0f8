-- The origins that closed boxes touch.
use Rattle.std.specs.Prelude.{◌≡◌, ◌<◌, ℕ, true, List, [], length, slice_index_or, All, Contains, ◌↔◌}
use Rattle.mpw_geom.specs.declared.plane.Box2.{Box2}
use Rattle.mpw_geom.specs.Plane.{Square, has_square}
use Rattle.mpw_markers.specs.Met.{IsAscending}
use Rattle.mpw_geom.specs.Meeting.{IsMet}
use Rattle.mpw_markers.specs.declared.search.Rectangle.{Rectangle}

-- a rectangle of that origin has the unit square
abbrev pub OriginHasSquare : List Rectangle → ℕ → Square → Type 0
OriginHasSquare rectangles origin s =
    (r : Rectangle) × Contains rectangles r × (r.origin ≡ origin) × (has_square r.area s ≡ true)

-- for each box the origins, ascending, that have a unit square which, taken closed, shares a point with the closed box
pub record AreMetOrigins (rectangles : List Rectangle) (boxes : List Box2) (mets : List (List ℕ)) :
    Type 0 where
  pub count : length mets ≡ length boxes
  pub ascending : All IsAscending mets
  pub met : (k origin : ℕ) (d : Box2) → k < length boxes
      → Contains (slice_index_or mets k []) origin
      ↔ IsMet (OriginHasSquare rectangles) (slice_index_or boxes k d) origin
