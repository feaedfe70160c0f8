-- The first markers of each rule of a layout, and how many there are.
use Rattle.std.specs.Prelude.{ℕ, List, length}
use Rattle.mpw_tiles.specs.Snapshots.{Snapshot}
use Rattle.mpw_markers.specs.declared.marker.Marker.{Marker}
use Rattle.mpw_job.specs.Layout.{AreLayoutMarkers}
use Rattle.mpw_columns_keys.specs.Firsts.{AreFirstOf}
use Rattle.mpw_columns.specs.declared.first.FirstMarkers.{FirstMarkers}

-- They are the first of the flat layout's markers, at most `most` of each rule, and the numbers count all of them.
pub record IsFirstOfLayout (most : ℕ) (s : Snapshot) (f : FirstMarkers) : Type 0 where
  pub book : List Marker
  pub markers : AreLayoutMarkers s book
  pub are : AreFirstOf most (length s.deck.rules) book f.markers.items f.counts.items f.all
