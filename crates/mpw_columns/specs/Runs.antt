-- The runs of a layout and of a column.
use Rattle.std.specs.Prelude.{◌≡◌, ◌≤ℤ◌, ◌<ℤ◌}
use Rattle.mpw_tiles.specs.Snapshots.{Snapshot, shown}
use Rattle.mpw_markers.specs.declared.marker.Key.{Key}
use Rattle.mpw_markers.specs.Whole.{IsMaximal}
use Rattle.mpw_job.specs.Computed.{steps_of, shown_on}
use Rattle.mpw_columns_keys.specs.declared.column.Column.{Column}

-- The run of the key is one of the whole layout.
abbrev pub IsRunOf : Snapshot → Key → Type 0
IsRunOf s k = IsMaximal (steps_of s.deck.rules (shown_on (shown s))) k

-- The run of the key is one of the whole layout, on the column's axis, and its x1 lies in the column.
pub record IsRunWithin (s : Snapshot) (c : Column) (k : Key) : Type 0 where
  pub run : IsRunOf s k
  pub on_axis : k.piece.axis ≡ c.axis
  pub left : c.from ≤ℤ k.piece.x1
  pub right : k.piece.x1 <ℤ c.to
