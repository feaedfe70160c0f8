-- A tile's job, and the markers that answer it.
use Rattle.std.specs.Prelude.{◌≡◌, ◌≤◌, ℕ, ◌&&◌, List, length, Contains, AllPairs, Some, slice_get, ◌↔◌}
use Rattle.std.specs.List.{list_any}
use Rattle.std.specs.Ordering.{nat_cmp, ordering_then}
use Rattle.std.specs.declared.cmp.Ordering.{Ordering}
use Rattle.std.specs.declared.cmp.Ordering.TheVariants.{Less}
use Rattle.mpw_geom.specs.declared.plane.Box2.{Box2}
use Rattle.mpw_geom.specs.Plane.{has_square, IsBoxInPlane}
use Rattle.mpw_deck.specs.declared.rule.Rule.{Rule}
use Rattle.mpw_edges.specs.declared.run.Piece.{Piece}
use Rattle.mpw_edges.specs.Pieces.{IsPiece, piece_cmp, box_of}
use Rattle.mpw_tiles.specs.declared.listing.Rectangle.{Rectangle}
use Rattle.mpw_tiles.specs.Listing.{HasListed}
use Rattle.mpw_markers.specs.declared.marker.Key.{Key}
use Rattle.mpw_markers.specs.declared.marker.Marker.{Marker}
use Rattle.mpw_markers.specs.Met.{IsAscending}
use Rattle.mpw_geom.specs.Meeting.{IsMet}
use Rattle.mpw_geom.specs.Layers.{same_layer}
use Rattle.mpw_job.specs.Layers.{Coverage, first_squares, second_squares}

-- A tile of a run: its core, the rectangles of its window, and the rules.
pub record TileJob : Type 0 where
  pub run : ℕ
  pub tile : ℕ
  pub core : Box2
  pub window : List Rectangle
  pub rules : List Rule

-- The properties of a tile's job: its core lies in the plane, and it has at most 256 rules, as a deck.
pub record IsTileJob (job : TileJob) : Type 0 where
  pub plane : IsBoxInPlane job.core
  pub few : length job.rules ≤ 256

-- A listed rectangle on the layer has the unit square.
abbrev pub listed_on : List Rectangle → Coverage
listed_on listed layer i j = list_any (λ (r : Rectangle). same_layer r.layer layer
    && has_square r.area (record { column = i; row = j })) listed

-- A maximal run of the rule's pair steps of the squares of the layers, within the core.
abbrev pub IsFoundIn : Box2 → Coverage → Rule → Piece → Type 0
IsFoundIn core on rule p =
    IsPiece rule (first_squares rule.check on) (second_squares rule.check on) core p

-- The key of a run of the rule at that index.
abbrev pub key_at : ℕ → Piece → Key
key_at place p = record { rule = place; piece = p }

-- The marker's numbers are those of the listed origins with a closed unit square that touches its closed box, on any layer.
pub record TellsMet (listed : List Rectangle) (m : Marker) : Type 0 where
  pub ascending : IsAscending m.met
  pub exact : (origin : ℕ) → Contains m.met origin ↔ IsMet (HasListed listed) (box_of m.key.piece)
      origin

-- A maximal run of the marker's rule, with what it touches.
pub record IsAnswer (job : TileJob) (m : Marker) : Type 0 where
  pub rule : Rule
  pub at : slice_get job.rules m.key.rule ≡ Some rule
  pub run : IsFoundIn job.core (listed_on job.window) rule m.key.piece
  pub met : TellsMet job.window m

-- Markers by the rule's index, then by axis, V before H, side, x1, x2 and y0.
abbrev pub marker_cmp : Marker → Marker → Ordering
marker_cmp m n = ordering_then (nat_cmp m.key.rule n.key.rule) (piece_cmp m.key.piece n.key.piece)

abbrev pub ComesBefore : Marker → Marker → Type 0
ComesBefore m n = marker_cmp m n ≡ Less

-- The markers answer the job: for each rule, by its index, they are the maximal runs within the core of the pair steps of the window's
-- rectangles. Each has the listed origins that its closed box touches. They are in order, each once.
pub record Answers (job : TileJob) (markers : List Marker) : Type 0 where
  pub sound : (m : Marker) → Contains markers m → IsAnswer job m
  pub complete : (place : ℕ) (rule : Rule) (p : Piece) → slice_get job.rules place ≡ Some rule
      → IsFoundIn job.core (listed_on job.window) rule p
      → (m : Marker) × Contains markers m × (m.key ≡ key_at place p)
  pub ordered : AllPairs ComesBefore markers
