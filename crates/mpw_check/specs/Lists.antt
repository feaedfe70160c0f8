-- The markers of tiles, a list for each, and what follows for the lists of all tiles.
use Rattle.std.specs.Prelude.{◌≡◌, ◌≤◌, ◌<◌, ◌+◌, ℕ, List, [], ◌++◌, length, slice_index_or, Option, Some, None, option_map}
use Rattle.mpw_geom.specs.declared.plane.Box2.{Box2}
use Rattle.mpw_job.specs.Answers.{TileJob, Answers}
use Rattle.mpw_job.specs.Layout.{AreLayoutMarkers}
use Rattle.mpw_markers.specs.Stitched.{IsStitched}
use Rattle.mpw_markers.specs.declared.marker.Marker.{Marker}
use Rattle.mpw_tiles.specs.Listing.{IsWindow}
use Rattle.mpw_tiles.specs.Plan.{Tiling, tiles, tile_core, tile_window}
use Rattle.mpw_tiles.specs.Shown.{IsShown}
use Rattle.mpw_tiles.specs.Snapshots.{Snapshot, IsSnapshot, shown, shown_extent, plan_for}
use Rattle.mpw_tiles.specs.declared.listing.Rectangle.{Rectangle}

-- The number of the only run.
abbrev pub only_run : ℕ
only_run = 1

-- The tile's job with that window.
abbrev pub tile_job_with : Snapshot → Tiling → List Rectangle → ℕ → TileJob
tile_job_with s plan window tile = record {
  run = only_run;
  tile = tile;
  core = tile_core plan tile;
  window = window;
  rules = s.deck.rules;
}

-- The markers are those of the tile of the snapshot's plan: they answer its job with a window that represents the layout there.
pub record IsOfTile (s : Snapshot) (tile : ℕ) (markers : List Marker) : Type 0 where
  pub plan : Tiling
  pub planned : plan_for s ≡ Some plan
  pub within : tile < tiles plan
  pub window : List Rectangle
  pub shows : IsWindow (IsShown (shown s)) (tile_window plan tile) window
  pub answered : Answers (tile_job_with s plan window tile) markers

-- A list for each tile from `first` to below `end`.
pub record AreOfTiles (s : Snapshot) (first end : ℕ) (lists : List (List Marker)) : Type 0 where
  pub count : first + length lists ≡ end
  pub own : (k : ℕ) → k < length lists → IsOfTile s (first + k) (slice_index_or lists k [])

-- How many tiles there are: 0 without shapes; none if there would be more than 4096.
abbrev pub count_over : Option Box2 → Option Tiling → Option ℕ
count_over None plan = Some 0
count_over (Some extent) plan = option_map tiles plan

abbrev pub tile_count : Snapshot → Option ℕ
tile_count s = count_over (shown_extent s) (plan_for s)

-- The tiles from `first` to below `end` exist.
pub record AreTiles (s : Snapshot) (first end : ℕ) : Type 0 where
  pub ordered : first ≤ end
  pub total : ℕ
  pub counted : tile_count s ≡ Some total
  pub within : end ≤ total

-- ---- laws

-- The lists of some tiles, followed by those of the next tiles, are the lists of all these tiles.
abbrev pub TilesFollowOn : Type 0
TilesFollowOn =
    (s : Snapshot) (first mid end : ℕ) (lists more : List (List Marker))
    → AreOfTiles s first mid lists → AreOfTiles s mid end more
    → AreOfTiles s first end (lists ++ more)

-- The book stitched from the lists of all tiles has exactly the markers of the flat layout.
abbrev pub TilesMakeTheLayout : Type 0
TilesMakeTheLayout =
    (s : Snapshot) (total : ℕ) (lists : List (List Marker)) (book : List Marker)
    → IsSnapshot s → tile_count s ≡ Some total → AreOfTiles s 0 total lists
    → IsStitched lists book
    → AreLayoutMarkers s book
