-- The lists of columns, and what their markers touch.
use Rattle.std.specs.Prelude.{ℕ, List, Contains, ◌↔◌}
use Rattle.mpw_geom.specs.Meeting.{IsMet}
use Rattle.mpw_tiles.specs.Snapshots.{Snapshot, shown}
use Rattle.mpw_tiles.specs.Shown.{HasShown}
use Rattle.mpw_markers.specs.declared.marker.Key.{Key}
use Rattle.mpw_markers.specs.declared.marker.Marker.{Marker}
use Rattle.mpw_edges.specs.Pieces.{box_of}
use Rattle.mpw_markers.specs.Met.{IsAscending}
use Rattle.mpw_columns_keys.specs.declared.column.Column.{Column}
use Rattle.mpw_columns_keys.specs.Keys.{AreInOrder}
use Rattle.mpw_columns.specs.Runs.{IsRunWithin}

-- The keys are those of the whole layout's runs on the column's axis whose x1 lies in the column, in order.
pub record IsColumnList (s : Snapshot) (c : Column) (keys : List Key) : Type 0 where
  pub exact : (k : Key) → Contains keys k ↔ IsRunWithin s c k
  pub ordered : AreInOrder keys

-- The marker touches exactly the origins of the shapes that its box touches.
pub record MeetsShown (s : Snapshot) (m : Marker) : Type 0 where
  pub ascending : IsAscending m.met
  pub met : (origin : ℕ) → Contains m.met origin ↔ IsMet (HasShown (shown s)) (box_of m.key.piece)
      origin
