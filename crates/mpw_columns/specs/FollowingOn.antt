-- The lists of adjacent columns.
use Rattle.std.specs.Prelude.{◌≡◌, ℕ, ℤ, List, AllPairs, Contains, ◌↔◌}
use Rattle.std.specs.List.{AllZip, flat_map}
use Rattle.std.specs.Ordering.{int_cmp, ordering_then}
use Rattle.std.specs.declared.cmp.Ordering.TheVariants.{Less}
use Rattle.mpw_edges.specs.declared.run.Axis.{Axis}
use Rattle.mpw_tiles.specs.Snapshots.{Snapshot}
use Rattle.mpw_markers.specs.declared.marker.Key.{Key}
use Rattle.mpw_columns_keys.specs.declared.column.Column.{Column}
use Rattle.mpw_columns_keys.specs.Columns.{AreColumns}
use Rattle.mpw_columns.specs.Runs.{IsRunWithin}

-- Keys of one rule, axis and side in the order of a book: by x1, x2 and y0.
abbrev pub ComesFirst : Key → Key → Type 0
ComesFirst k l =
    ordering_then (int_cmp k.piece.x1 l.piece.x1)
    (ordering_then (int_cmp k.piece.x2 l.piece.x2) (int_cmp k.piece.y0 l.piece.y0)) ≡ Less

-- The keys are those of a rule's runs of that side whose x1 lies in the column, in order.
pub record IsListFor (s : Snapshot) (rule side : ℕ) (c : Column) (keys : List Key) : Type 0 where
  pub exact : (k : Key) → Contains keys k
      ↔ ((k.rule ≡ rule) × (k.piece.side ≡ side) × IsRunWithin s c k)
  pub ordered : AllPairs ComesFirst keys

-- The list of a rule, an axis and a side is that of its columns, one after another, if the columns are adjacent and in order.
abbrev pub ColumnsFollowOn : Type 0
ColumnsFollowOn =
    (s : Snapshot) (rule side : ℕ) (axis : Axis) (low high : ℤ) (columns : List Column)
    (lists : List (List Key)) → AreColumns axis low high columns
    → AllZip (IsListFor s rule side) columns lists
    → IsListFor s rule side (record { axis = axis; from = low; to = high })
    (flat_map (λ list. list) lists)
