-- Laws of tiles.
use Rattle.std.specs.Prelude.{◌≡◌, ◌≤◌, ◌<◌, ℕ, ℤ, true, List, [], slice_index_or, Option, Some, All, Contains, ◌↔◌}
use Rattle.mpw_geom.specs.declared.plane.Layer.{Layer}
use Rattle.mpw_geom.specs.declared.plane.Box2.{Box2}
use Rattle.mpw_geom.specs.Meeting.{Meet, IsMet}
use Rattle.mpw_geom.specs.Plane.{Square, has_square, closed_square}
use Rattle.mpw_deck.specs.declared.rule.Rule.{Rule}
use Rattle.mpw_deck.specs.Decks.{Deck}
use Rattle.mpw_edges.specs.declared.run.Axis.{Axis}
use Rattle.mpw_edges.specs.declared.run.Piece.{Piece}
use Rattle.mpw_edges.specs.Edges.{Squares}
use Rattle.mpw_edges.specs.Pieces.{IsStepOn, HasStep, IsPiece, box_of}
use Rattle.mpw_edges.specs.Laws.{AreSameIn}
use Rattle.mpw_hier.specs.declared.submission.Submission.{Submission}
use Rattle.mpw_hier.specs.Items.{Item}
use Rattle.mpw_hier.specs.Boxes.{item_box, extent_of}
use Rattle.mpw_walk.specs.declared.root.Root.{Root}
use Rattle.mpw_walk.specs.Turns.{flat_roots}
use Rattle.mpw_walk.specs.Walk.{IsRoot}
use Rattle.mpw_tiles.specs.declared.listing.Rectangle.{Rectangle}
use Rattle.mpw_tiles.specs.Listing.{IsListed, HasListed, ListNear}
use Rattle.mpw_tiles.specs.Placed.{IsSquareInPlane, WindowsLieInPlane}
use Rattle.mpw_tiles.specs.Shown.{ShowsSquare, IsShown, HasShown, AreShownOn}
use Rattle.mpw_tiles.specs.Snapshots.{Snapshot, IsSnapshot, shown, plan_for, StandFor}
use Rattle.mpw_tiles.specs.Plan.{Tiling, plan_of, tiles, tile_core, tile_window}

-- The squares lie in the box.
abbrev pub LieIn : Box2 → Squares → Type 0
LieIn box a = (i j : ℤ) → a i j ≡ true → has_square box (record { column = i; row = j }) ≡ true

-- The pair step belongs to the core of this tile, and to no other.
pub record IsOnlyTile (plan : Tiling) (rule : Rule) (a b : Squares) (axis : Axis) (side : ℕ)
    (x1 x2 j : ℤ) (tile : ℕ) : Type 0 where
  pub within : tile < tiles plan
  pub inside : HasStep rule a b (tile_core plan tile) axis side x1 x2 j
  pub only : (other : ℕ) → other < tiles plan
      → HasStep rule a b (tile_core plan other) axis side x1 x2 j → other ≡ tile

-- Each pair step of a layout belongs to the core of exactly one tile of a plan over the layout's extent.
abbrev pub EachStepHasOneTile : Type 0
EachStepHasOneTile =
    (plan : Tiling) (rule : Rule) (a b : Squares) (axis : Axis) (side : ℕ) (x1 x2 j : ℤ)
    → 1 ≤ plan.grid.side → LieIn plan.grid.extent a → LieIn plan.grid.extent b
    → IsStepOn rule a b axis side x1 x2 j
    → (tile : ℕ) × IsOnlyTile plan rule a b axis side x1 x2 j tile

-- What a tile's core finds for a rule of the deck depends only on the squares of its window.
abbrev pub EachWindowDecides : Type 0
EachWindowDecides =
    (extent : Box2) (deck : Deck) (rule : Rule) (tile : ℕ) (a b a' b' : Squares)
    → Contains deck.rules rule
    → AreSameIn (tile_window (plan_of extent deck) tile) a a'
    → AreSameIn (tile_window (plan_of extent deck) tile) b b'
    → (p : Piece) → IsPiece rule a b (tile_core (plan_of extent deck) tile) p
    ↔ IsPiece rule a' b' (tile_core (plan_of extent deck) tile) p

-- The same row by row: which pair steps lie in a tile's core depends only on the squares of its window.
abbrev pub EachWindowDecidesRows : Type 0
EachWindowDecidesRows =
    (extent : Box2) (deck : Deck) (rule : Rule) (tile : ℕ) (a b a' b' : Squares)
    → Contains deck.rules rule
    → AreSameIn (tile_window (plan_of extent deck) tile) a a'
    → AreSameIn (tile_window (plan_of extent deck) tile) b b'
    → (axis : Axis) (side : ℕ) (x1 x2 j : ℤ)
    → HasStep rule a b (tile_core (plan_of extent deck) tile) axis side x1 x2 j
    ↔ HasStep rule a' b' (tile_core (plan_of extent deck) tile) axis side x1 x2 j

-- The squares are those that the listed rectangles have on the layer.
pub record AreListedOn (listed : List Rectangle) (layer : Layer) (a : Squares) : Type 0 where
  pub listed_at : (i j : ℤ) → a i j ≡ true
      → (origin : ℕ) × IsListed listed layer origin (record { column = i; row = j })
  pub all : (i j : ℤ) (origin : ℕ) → IsListed listed layer origin (record { column = i; row = j })
      → a i j ≡ true

-- The unit square lies in a box, and this is it.
pub record IsInBox (box : Option Box2) (s : Square) : Type 0 where
  pub corners : Box2
  pub is : box ≡ Some corners
  pub has : has_square corners s ≡ true

-- The squares of a placed shape lie in its placed box; those of a list lie in the least box that contains the boxes of the list.
abbrev pub SquaresLieInBoxes : Type 0
SquaresLieInBoxes = (item : Item) (layer : Layer) (origin : ℕ) (s : Square)
    → ShowsSquare item layer origin s → IsInBox (item_box item) s

abbrev pub SquaresLieInExtents : Type 0
SquaresLieInExtents = (items : List Item) (layer : Layer) (origin : ℕ) (s : Square)
    → IsShown items layer origin s → IsInBox (extent_of items) s

-- The same for the squares of a layer.
abbrev pub LayersLieInExtents : Type 0
LayersLieInExtents =
    (items : List Item) (extent : Box2) (layer : Layer) (a : Squares)
    → extent_of items ≡ Some extent → AreShownOn items layer a → LieIn extent a

-- The squares of roots lie in the plane.
abbrev pub SquaresLieInPlane : Type 0
SquaresLieInPlane =
    (ss : List Submission) (roots : List Root) (layer : Layer) (origin : ℕ) (s : Square)
    → All (IsRoot ss) roots
    → IsShown (flat_roots ss roots) layer origin s → IsSquareInPlane s

-- The windows of a snapshot's plan lie in the plane.
abbrev pub PlansLieInPlane : Type 0
PlansLieInPlane = (s : Snapshot) (plan : Tiling) → IsSnapshot s → plan_for s ≡ Some plan
    → WindowsLieInPlane plan

-- In the window of a tile, the rectangles that are listed for it have the squares of the shapes on each layer.
abbrev pub WindowsShowLayers : Type 0
WindowsShowLayers =
    (snapshot : Snapshot) (plan : Tiling) (windows : List (List Rectangle)) (tile : ℕ)
    (layer : Layer) (a listed : Squares)
    → plan_for snapshot ≡ Some plan → StandFor snapshot windows → tile < tiles plan
    → AreShownOn (shown snapshot) layer a
    → AreListedOn (slice_index_or windows tile []) layer listed
    → AreSameIn (tile_window plan tile) a listed

-- A rectangle that is listed for a tile has a unit square of the tile's window that a shape of its layer and origin has.
pub record ListsWhatIsShown (items : List Item) (window : Box2) (r : Rectangle) : Type 0 where
  pub square : Square
  pub inside : has_square window square ≡ true
  pub has : has_square r.area square ≡ true
  pub shown_there : IsShown items r.layer r.origin square

abbrev pub WindowsListWhatIsShown : Type 0
WindowsListWhatIsShown =
    (snapshot : Snapshot) (plan : Tiling) (windows : List (List Rectangle)) (tile : ℕ)
    (r : Rectangle)
    → plan_for snapshot ≡ Some plan → StandFor snapshot windows → ListNear plan windows
    → tile < tiles plan → Contains (slice_index_or windows tile []) r
    → ListsWhatIsShown (shown snapshot) (tile_window plan tile) r

-- A closed unit square that touches the closed box of a run inside a tile's core lies in the tile's window.
abbrev pub MetSquaresLieInWindows : Type 0
MetSquaresLieInWindows =
    (extent : Box2) (deck : Deck) (rule : Rule) (tile : ℕ) (a b : Squares) (p : Piece) (s : Square)
    → Contains deck.rules rule
    → IsPiece rule a b (tile_core (plan_of extent deck) tile) p
    → Meet (closed_square s) (box_of p)
    → has_square (tile_window (plan_of extent deck) tile) s ≡ true

-- The window of a tile determines which origins touch the box of a run that its core finds.
abbrev pub WindowsTellMet : Type 0
WindowsTellMet =
    (snapshot : Snapshot) (plan : Tiling) (windows : List (List Rectangle)) (rule : Rule) (tile : ℕ)
    (a b : Squares) (p : Piece) (origin : ℕ)
    → plan_for snapshot ≡ Some plan → StandFor snapshot windows → tile < tiles plan
    → Contains snapshot.deck.rules rule
    → IsPiece rule a b (tile_core plan tile) p
    → IsMet (HasShown (shown snapshot)) (box_of p) origin
    ↔ IsMet (HasListed (slice_index_or windows tile [])) (box_of p) origin
