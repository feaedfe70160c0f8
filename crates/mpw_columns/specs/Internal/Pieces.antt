-- Pieces of what a core finds: keys that have the rows of its pair steps, in whatever parts; all is seen along the axis.
use Rattle.std.specs.Prelude.{◌≡◌, ◌+◌, ◌++◌, true, ℤ, ◌+ℤ◌, ◌-ℤ◌, ◌<ℤ◌, ◌≤ℤ◌, List, All, Some, slice_get, ◌⊎◌, pos, neg_ℤ, ◌^◌, ◌↔◌}
use Rattle.mpw_geom.specs.declared.plane.Box2.{Box2}
use Rattle.mpw_geom.specs.declared.plane.Point.{Point}
use Rattle.mpw_geom.specs.Plane.{Square, has_square}
use Rattle.mpw_deck.specs.declared.rule.Rule.{Rule}
use Rattle.mpw_edges.specs.declared.run.Axis.{Axis}
use Rattle.mpw_edges.specs.declared.run.Axis.TheVariants.{V, H}
use Rattle.mpw_edges.specs.declared.run.Piece.{Piece}
use Rattle.mpw_edges.specs.Pieces.{HasVerticalStep}
use Rattle.mpw_walk.specs.Window.{do_meet}
use Rattle.mpw_columns_contents.specs.declared.thing.Thing.{Thing}
use Rattle.mpw_columns_contents.specs.Contents.{IsBoxed}
use Rattle.mpw_columns_contents.specs.Things.{things_items}
use Rattle.mpw_tiles.specs.Snapshots.{shown}
use Rattle.mpw_tiles.specs.declared.listing.Rectangle.{Rectangle}
use Rattle.mpw_markers.specs.declared.marker.Key.{Key}
use Rattle.mpw_markers.specs.declared.marker.Line.{Line}
use Rattle.mpw_job.specs.Computed.{shown_on}
use Rattle.mpw_job.specs.Answers.{listed_on}
use Rattle.mpw_job.specs.Layers.{Coverage, first_squares, second_squares}
use Rattle.mpw_columns_keys.specs.Columns.{across, seen_box}
use Rattle.mpw_columns_keys.specs.Pieces.{IsRowOf}
use Rattle.mpw_columns.specs.Seen.{seen_on}
use Rattle.mpw_columns.specs.declared.layout.Layout.{Layout}
use Rattle.mpw_columns.specs.declared.kept.Solved.{Solved}
use Rattle.mpw_columns.specs.Internal.Found.{AgreeIn, left_of, right_of}

-- The row has a pair step of the line's rule in the core.
pub record IsStepIn (rules : List Rule) (axis : Axis) (on : Coverage) (core : Box2) (line : Line)
    (j : ℤ) :
    Type 0 where
  pub rule : Rule
  pub at : slice_get rules line.rule ≡ Some rule
  pub on_axis : line.axis ≡ axis
  pub step : HasVerticalStep rule (first_squares rule.check on) (second_squares rule.check on) core
      line.side line.x1 line.x2 j

-- Each of the keys has some row, and together they have exactly the rows of the core's pair steps.
pub record ArePieces (rules : List Rule) (axis : Axis) (on : Coverage) (core : Box2)
    (keys : List Key) :
    Type 0 where
  pub filled : All (λ k. k.piece.y0 <ℤ k.piece.y1) keys
  pub exact : (line : Line) (j : ℤ) → IsRowOf keys line j ↔ IsStepIn rules axis on core line j

-- Such pieces were added after others.
pub record AddsPieces (rules : List Rule) (axis : Axis) (on : Coverage) (core : Box2)
    (old new : List Key) :
    Type 0 where
  pub added : List Key
  pub is : new ≡ old ++ added
  pub pieces : ArePieces rules axis on core added

-- ---- displaced cores and keys

-- The core below a row, and above it.
abbrev pub below_of : Box2 → ℤ → Box2
below_of core at = record { x0 = core.x0; y0 = core.y0; x1 = core.x1; y1 = at }

abbrev pub above_of : Box2 → ℤ → Box2
above_of core at = record { x0 = core.x0; y0 = at; x1 = core.x1; y1 = core.y1 }

-- The box and the key, displaced across the edges and along them.
abbrev pub moved_box : Point → Box2 → Box2
moved_box d b = record { x0 = b.x0 +ℤ d.x; y0 = b.y0 +ℤ d.y; x1 = b.x1 +ℤ d.x; y1 = b.y1 +ℤ d.y }

abbrev pub moved_key : Point → Key → Key
moved_key d k =
    let p = k.piece in
    let piece : Piece = record p {
      x1 = p.x1 +ℤ d.x;
      x2 = p.x2 +ℤ d.x;
      y0 = p.y0 +ℤ d.y;
      y1 = p.y1 +ℤ d.y;
    } in
    record k { piece = piece }

-- The displacement as it is seen along an axis.
abbrev pub seen_way : Axis → Point → Point
seen_way V d = d
seen_way H d = record { x = d.y; y = d.x }

-- The first core lies within the second, or is equal to it.
pub record IsInside (core outer : Box2) : Type 0 where
  pub left : outer.x0 ≤ℤ core.x0
  pub right : core.x1 ≤ℤ outer.x1
  pub bottom : outer.y0 ≤ℤ core.y0
  pub top : core.y1 ≤ℤ outer.y1

-- The third number is the sum of the others; the second core is the first, displaced.
abbrev pub IsSum : (a b sum : ℤ) → Type 0
IsSum a b sum = sum ≡ (a +ℤ b)

abbrev pub IsMovedCore : Point → (core other : Box2) → Type 0
IsMovedCore d core other = other ≡ moved_box d core

-- The parts of a core left and right of a position, or below and above a row.
pub record IsCutAcross (core : Box2) (at : ℤ) (first second : Box2) : Type 0 where
  pub low : core.x0 ≤ℤ at
  pub high : at ≤ℤ core.x1
  pub first_is : first ≡ left_of core at
  pub second_is : second ≡ right_of core at

pub record IsCutAlong (core : Box2) (at : ℤ) (first second : Box2) : Type 0 where
  pub low : core.y0 ≤ℤ at
  pub high : at ≤ℤ core.y1
  pub first_is : first ≡ below_of core at
  pub second_is : second ≡ above_of core at

abbrev pub IsCut : (core first second : Box2) → Type 0
IsCut core first second =
    (at : ℤ) × (IsCutAcross core at first second ⊎ IsCutAlong core at first second)

-- ---- the content of entries

-- The layout as it is seen along an axis, and the content of entries, seen so too.
abbrev pub seen_layout : Layout → Axis → Coverage
seen_layout l axis = seen_on axis (shown_on (shown l.snapshot.now))

abbrev pub seen_things : Layout → Axis → List Thing → Coverage
seen_things l axis things = seen_on axis (shown_on (things_items l.snapshot.now.shelf things))

-- The numbers are in order, and both are within bounds.
pub record IsSpan (low high : ℤ) : Type 0 where
  pub bottom : neg_ℤ (pos (2 ^ 42)) ≤ℤ low
  pub ordered : low ≤ℤ high
  pub top : high ≤ℤ pos (2 ^ 42)

-- The box without its outermost points.
abbrev pub smaller : Box2 → Box2
smaller b =
    record { x0 = b.x0 +ℤ pos 1; y0 = b.y0 +ℤ pos 1; x1 = b.x1 -ℤ pos 1; y1 = b.y1 -ℤ pos 1 }

-- What has a unit square of the window touches the other box.
abbrev pub MeetsSquaresOf : (window met : Box2) → Type 0
MeetsSquaresOf window met = (b : Box2) (s : Square) → has_square window s ≡ true
    → has_square b s ≡ true → do_meet b met ≡ true

-- In the core's window, on the layers of the rules, the entries have exactly what the layout has, and the areas of shapes are their boxes.
pub record AreThingsIn (l : Layout) (axis : Axis) (core : Box2) (things : List Thing) : Type 0 where
  pub shows : AgreeIn l.layers.now (across core (l.distance + 1)) (seen_layout l axis)
      (seen_things l axis things)
  pub boxed : All (IsBoxed l.snapshot.now.shelf) things

-- The keys are pieces of what the layout has in the core.
abbrev pub AreLayoutPieces : Layout → Axis → Box2 → List Key → Type 0
AreLayoutPieces l axis core keys =
    ArePieces l.snapshot.now.deck.rules axis (seen_layout l axis) core keys

abbrev pub AddsLayoutPieces : Layout → Axis → Box2 → (old new : List Key) → Type 0
AddsLayoutPieces l axis core old new =
    AddsPieces l.snapshot.now.deck.rules axis (seen_layout l axis) core old new

-- The rectangles have there exactly the squares that the layout has.
abbrev pub AreRectanglesIn : Layout → Axis → Box2 → List Rectangle → Type 0
AreRectanglesIn l axis core rectangles =
    AgreeIn l.layers.now (across core (l.distance + 1)) (seen_layout l axis) (listed_on rectangles)

-- A core that is held has the pieces of its entries.
abbrev pub IsSolved : Layout → Axis → Solved → Type 0
IsSolved l axis s =
    ArePieces l.snapshot.now.deck.rules axis (seen_things l axis s.things) s.core s.keys.items

-- The core of all columns of an axis.
abbrev pub whole_core : Layout → Axis → Box2
whole_core l axis = record {
  x0 = (seen_box axis l.extent).x0;
  y0 = (seen_box axis l.extent).y0;
  x1 = (seen_box axis l.extent).x1 +ℤ pos 1;
  y1 = (seen_box axis l.extent).y1;
}
