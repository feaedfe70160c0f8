-- Laws of jobs.
use Rattle.std.specs.Prelude.{◌≡◌, ◌<◌, ℕ, List, [], length, slice_index_or, Some, None, Contains, ◌↔◌}
use Rattle.mpw_geom.specs.declared.plane.Layer.{Layer}
use Rattle.mpw_geom.specs.Plane.{IsBoxInPlane}
use Rattle.mpw_deck.specs.declared.rule.Rule.{Rule}
use Rattle.mpw_hier.specs.Items.{Item}
use Rattle.mpw_tiles.specs.declared.listing.Rectangle.{Rectangle}
use Rattle.mpw_tiles.specs.Shown.{AreShownOn}
use Rattle.mpw_tiles.specs.Plan.{Tiling, tiles, tile_core}
use Rattle.mpw_tiles.specs.Snapshots.{Snapshot, IsSnapshot, shown_extent, plan_for, StandFor}
use Rattle.mpw_markers.specs.declared.marker.Marker.{Marker}
use Rattle.mpw_markers.specs.Stitched.{IsStitched}
use Rattle.mpw_job.specs.Answers.{TileJob, Answers}
use Rattle.mpw_job.specs.Computed.{shown_on, AreTestedMarkers}
use Rattle.mpw_job.specs.Layout.{AreFlatMarkers, AreLayoutMarkers}

-- The test of a layer's squares is true exactly if a shape of the layer has the square.
abbrev pub TestsTellShown : Type 0
TestsTellShown = (items : List Item) (layer : Layer) → AreShownOn items layer (shown_on items layer)

-- The markers that the tests of squares and rows determine are those of the flat layout.
abbrev pub TestsTellMarkers : Type 0
TestsTellMarkers = (rules : List Rule) (items : List Item) (markers : List Marker)
    → AreTestedMarkers rules items markers ↔ AreFlatMarkers rules items markers

-- The job of a tile of a run over the snapshot, by its plan and windows.
abbrev pub tile_job_of : Snapshot → Tiling → List (List Rectangle) → (run tile : ℕ) → TileJob
tile_job_of s plan windows run tile = record {
  run = run;
  tile = tile;
  core = tile_core plan tile;
  window = slice_index_or windows tile [];
  rules = s.deck.rules;
}

-- Each core of a plan lies in the plane, as a job's core must.
abbrev pub CoresLieInPlane : Type 0
CoresLieInPlane =
    (s : Snapshot) (plan : Tiling) (tile : ℕ) → IsSnapshot s → plan_for s ≡ Some plan
    → tile < tiles plan → IsBoxInPlane (tile_core plan tile)

-- There is a list for each tile, and each answers its tile's job.
pub record AnswerTiles (s : Snapshot) (plan : Tiling) (windows : List (List Rectangle)) (run : ℕ)
    (lists : List (List Marker)) : Type 0 where
  pub count : length lists ≡ tiles plan
  pub answered : (tile : ℕ) → tile < tiles plan
      → Answers (tile_job_of s plan windows run tile) (slice_index_or lists tile [])

-- If windows represent a snapshot, and each tile's job is answered, then the book stitched from the answers has exactly the markers of
-- the flat layout, whatever the side of the tiles.
abbrev pub AnswersMakeTheLayout : Type 0
AnswersMakeTheLayout =
    (s : Snapshot) (plan : Tiling) (windows : List (List Rectangle)) (run : ℕ)
    (lists : List (List Marker)) (book : List Marker)
    → IsSnapshot s → plan_for s ≡ Some plan → StandFor s windows
    → AnswerTiles s plan windows run lists → IsStitched lists book
    → AreLayoutMarkers s book

-- A layout has one list of markers: two lists that are the layout's are equal, in their order too.
abbrev pub LayoutDeterminesMarkers : Type 0
LayoutDeterminesMarkers =
    (s : Snapshot) (first second : List Marker) → AreLayoutMarkers s first
    → AreLayoutMarkers s second → first ≡ second

-- A marker of the layout touches at least one submission.
abbrev pub EachMarkerMeetsSome : Type 0
EachMarkerMeetsSome =
    (s : Snapshot) (markers : List Marker) (m : Marker) → AreLayoutMarkers s markers
    → Contains markers m → (origin : ℕ) × Contains m.met origin

-- A layout without shapes has no markers.
abbrev pub NoShapesNoMarkers : Type 0
NoShapesNoMarkers = (s : Snapshot) → shown_extent s ≡ None → AreLayoutMarkers s []
