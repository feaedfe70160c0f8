-- The markers of a flat layout, defined without tiles and windows.
use Rattle.std.specs.Prelude.{List}
use Rattle.mpw_geom.specs.declared.plane.Layer.{Layer}
use Rattle.mpw_deck.specs.declared.rule.Rule.{Rule}
use Rattle.mpw_hier.specs.Items.{Item}
use Rattle.mpw_tiles.specs.Shown.{HasShown, AreShownOn}
use Rattle.mpw_tiles.specs.Snapshots.{Snapshot, shown}
use Rattle.mpw_markers.specs.declared.marker.Marker.{Marker}
use Rattle.mpw_markers.specs.Book.{IsBook}
use Rattle.mpw_markers.specs.Maximal.{AreMarkersOfRuns}
use Rattle.mpw_job.specs.Layers.{Coverage, HasPairStep}

-- A book with one marker for each maximal run of rows that have a pair step of a rule, where `on` has exactly the squares of the shapes
-- of each layer. Each marker touches exactly the origins that have a unit square, on any layer, which, taken closed, touches its closed box.
pub record AreFlatMarkers (rules : List Rule) (items : List Item) (markers : List Marker) : Type 0
  where
    pub book : IsBook markers
    pub on : Coverage
    pub shown_on : (layer : Layer) → AreShownOn items layer (on layer)
    pub runs : AreMarkersOfRuns (HasPairStep rules on) (HasShown items) markers

-- The markers of the flat layout of the snapshot's roots under its deck.
abbrev pub AreLayoutMarkers : Snapshot → List Marker → Type 0
AreLayoutMarkers s markers = AreFlatMarkers s.deck.rules (shown s) markers
