-- For private functions and proofs: rectangles that are added to those of a window.
use Rattle.std.specs.Prelude.{◌≡◌, ℕ, true, List, Contains, ◌⊎◌, ◌↔◌}
use Rattle.mpw_geom.specs.declared.plane.Box2.{Box2}
use Rattle.mpw_geom.specs.declared.plane.Layer.{Layer}
use Rattle.mpw_geom.specs.Plane.{Square, has_square}
use Rattle.mpw_tiles.specs.declared.listing.Rectangle.{Rectangle}
use Rattle.mpw_tiles.specs.Listing.{IsListed}
use Rattle.mpw_firm_picture.specs.Drawn.{LiesIn}

-- Rectangles were added that lie in the window and have exactly its squares of P.
pub record AddsIn (window : Box2) (old new : List Rectangle) (P : Layer → ℕ → Square → Type 0) :
    Type 0 where
  pub squares : (s : Square) (layer : Layer) (origin : ℕ) → has_square window s ≡ true
      → IsListed new layer origin s ↔ (IsListed old layer origin s ⊎ P layer origin s)
  pub inside : (r : Rectangle) → Contains new r → Contains old r ⊎ LiesIn window r
