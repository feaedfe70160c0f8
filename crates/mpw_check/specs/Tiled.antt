-- The markers of what is drawn.
use Rattle.std.specs.Prelude.{ℕ, List}
use Rattle.mpw_hier.specs.Values.{flat}
use Rattle.mpw_job.specs.Layout.{AreFlatMarkers, AreLayoutMarkers}
use Rattle.mpw_deck.specs.Decks.{Deck}
use Rattle.mpw_structures.specs.declared.structures.Structure.{Structure}
use Rattle.mpw_markers.specs.declared.marker.Marker.{Marker}
use Rattle.mpw_tiles.specs.Snapshots.{Snapshot}
use Rattle.mpw_check.specs.Drawn.{IsDrawn, drawn_shelf}

-- The markers of what is drawn are those of the flat list of the library's top, by itself, under the deck's rules.
abbrev pub MarkersAreTheLibrarys : Type 0
MarkersAreTheLibrarys =
    (deck : Deck) (top : List ℕ) (library : List Structure) (s : Snapshot) (markers : List Marker)
    → IsDrawn deck top library s → AreLayoutMarkers s markers
    → AreFlatMarkers deck.rules (flat (drawn_shelf top library) 0) markers
