-- What a tile's window decides: the pair steps of the tile's core, row by row, and the origins that each row
-- touches.
use Rattle.std.specs.Prelude.{◌≡◌, ◌↔◌, ℕ, ℤ, pos, ◌+ℤ◌, List, Contains}
use Rattle.mpw_geom.specs.declared.plane.Box2.{Box2}
use Rattle.mpw_geom.specs.Meeting.{IsMet}
use Rattle.mpw_deck.specs.declared.rule.Rule.{Rule}
use Rattle.mpw_deck.specs.Decks.{Deck}
use Rattle.mpw_edges.specs.declared.run.Axis.{Axis}
use Rattle.mpw_edges.specs.Pieces.{HasStep, box_on}
use Rattle.mpw_tiles.specs.declared.listing.Rectangle.{Rectangle}
use Rattle.mpw_tiles.specs.Listing.{IsListed, HasListed, IsWindow}
use Rattle.mpw_tiles.specs.Plan.{plan_of, tile_core, tile_window}
use Rattle.mpw_markers.specs.declared.marker.Marker.{Marker}
use Rattle.mpw_job.specs.Answers.{TileJob, listed_on, Answers}
use Rattle.mpw_job.specs.Layers.{first_squares, second_squares}

-- In the window both lists of rectangles have the same unit squares, by layer and origin.
abbrev pub HaveSameSquares : Box2 → List Rectangle → List Rectangle → Type 0
HaveSameSquares window first second = IsWindow (IsListed second) window first

-- A row within the core has a pair step of the rule between edges of the rectangles.
abbrev pub HasListedStep : Rule → Box2 → List Rectangle → Axis → ℕ → ℤ → ℤ → ℤ → Type 0
HasListedStep rule core listed =
    HasStep rule (first_squares rule.check (listed_on listed))
    (second_squares rule.check (listed_on listed)) core

-- The closed box of one row.
abbrev pub row_box : Axis → ℤ → ℤ → ℤ → Box2
row_box axis x1 x2 j = box_on axis x1 x2 j (j +ℤ pos 1)

-- Both lists have the same pair steps, row by row, and each such row touches the same origins.
pub record TellTheSame (rule : Rule) (core : Box2) (first second : List Rectangle) : Type 0 where
  pub steps : (axis : Axis) (side : ℕ) (x1 x2 j : ℤ)
      → HasListedStep rule core first axis side x1 x2 j
      ↔ HasListedStep rule core second axis side x1 x2 j
  pub met : (axis : Axis) (side : ℕ) (x1 x2 j : ℤ) (origin : ℕ)
      → HasListedStep rule core first axis side x1 x2 j
      → IsMet (HasListed first) (row_box axis x1 x2 j) origin
      ↔ IsMet (HasListed second) (row_box axis x1 x2 j) origin

-- The squares of a tile's window alone decide what a rule of the deck finds in the tile's core.
abbrev pub SquaresDecideRows : Type 0
SquaresDecideRows =
    (extent : Box2) (deck : Deck) (rule : Rule) (tile : ℕ) (first second : List Rectangle)
    → Contains deck.rules rule
    → HaveSameSquares (tile_window (plan_of extent deck) tile) first second
    → TellTheSame rule (tile_core (plan_of extent deck) tile) first second

-- The job is of that tile: it has the tile's core and the deck's rules, whatever its window lists.
pub record IsOfTile (extent : Box2) (deck : Deck) (tile : ℕ) (job : TileJob) : Type 0 where
  pub core : job.core ≡ tile_core (plan_of extent deck) tile
  pub rules : job.rules ≡ deck.rules

-- So two jobs of a tile whose windows have the same squares have one answer.
abbrev pub SquaresDecideAnswers : Type 0
SquaresDecideAnswers =
    (extent : Box2) (deck : Deck) (tile : ℕ) (first second : TileJob)
    (found others : List Marker)
    → IsOfTile extent deck tile first → IsOfTile extent deck tile second
    → HaveSameSquares (tile_window (plan_of extent deck) tile) first.window second.window
    → Answers first found → Answers second others → found ≡ others
