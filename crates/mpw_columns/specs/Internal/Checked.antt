-- A layout as it is checked, and its columns.
use Rattle.std.specs.Prelude.{◌≡◌, ◌<◌, ◌≤◌, ◌+◌, ◌^◌, ℕ, List, length, take, drop, All, Some, IfSome}
use Rattle.std.specs.List.{AllZip}
use Rattle.mpw_edges.specs.declared.run.Axis.TheVariants.{V, H}
use Rattle.mpw_columns_contents.specs.Boxes.{AreBoxesOf}
use Rattle.mpw_columns_contents.specs.declared.thing.Thing.{Thing}
use Rattle.mpw_tiles.specs.Snapshots.{Snapshot, shown, shown_extent}
use Rattle.mpw_tiles.specs.declared.listing.Rectangle.{Rectangle}
use Rattle.mpw_job.specs.Answers.{listed_on}
use Rattle.mpw_job.specs.Computed.{shown_on}
use Rattle.mpw_columns_keys.specs.Columns.{seen_box, upright, across}
use Rattle.mpw_columns.specs.declared.shared.Shared.{Shared}
use Rattle.mpw_columns.specs.Seen.{seen_on}
use Rattle.mpw_markers.specs.declared.marker.Key.{Key}
use Rattle.mpw_columns_keys.specs.declared.column.Column.{Column}
use Rattle.mpw_columns.specs.declared.batch.Batch.{Batch}
use Rattle.mpw_columns.specs.declared.batch.Listed.{Listed}
use Rattle.mpw_columns.specs.declared.batch.Top.{Top}
use Rattle.mpw_columns.specs.declared.check.Batches.{Batches}
use Rattle.mpw_columns.specs.declared.layout.Layout.{Layout}
use Rattle.mpw_columns.specs.declared.layout.Ready.{Ready}
use Rattle.mpw_columns.specs.Found.{HasLayers}
use Rattle.mpw_columns.specs.Plan.{AreColumnsOfLayout}
use Rattle.mpw_columns.specs.Lists.{IsColumnList}
use Rattle.mpw_columns.specs.Internal.Found.{IsLook, IsUpright, AgreeIn}
use Rattle.mpw_columns.specs.Internal.Pieces.{AreThingsIn, whole_core}

-- The shapes are of one submission, and the layers and the distance are those of the rules.
pub record IsLayout (l : Layout) : Type 0 where
  pub alone : length l.snapshot.now.shelf ≡ 1
  pub extent_is : shown_extent l.snapshot.now ≡ Some l.extent
  pub short : l.distance < 2 ^ 32
  pub look : IsLook l.snapshot.now.deck.rules l.layers.now l.distance
  pub boxes : AreBoxesOf l.snapshot.now.shelf l.boxes.now

-- The layers are those of the rules, and the boxes are those of the submission's elements.
pub record IsReady (s : Snapshot) (r : Ready) : Type 0 where
  pub layers : All (λ rule. HasLayers r.layers.items rule.check) s.deck.rules
  pub boxes : AreBoxesOf s.shelf r.boxes

-- In the window of a column, on the layers of the rules, the rectangles have exactly the squares of the layout, as they are seen along its axis.
abbrev pub AgreeInColumn : Layout → Column → List Rectangle → Type 0
AgreeInColumn l c rectangles =
    AgreeIn l.layers.now (across (upright (seen_box c.axis l.extent) c) (l.distance + 1))
    (seen_on c.axis (shown_on (shown l.snapshot.now))) (listed_on rectangles)

-- The shared rectangles have them in the window of their column.
abbrev pub IsShared : Layout → Shared → Type 0
IsShared l shared = AgreeInColumn l shared.whole shared.rectangles.items

-- The entries of the whole layout, for either axis; those in the window of the column of a batch; and what a batch shares.
abbrev pub AreAllThings : Layout → List Thing → Type 0
AreAllThings l things = AreThingsIn l V (whole_core l V) things × AreThingsIn l H (whole_core l H) things

abbrev pub IsTop : Layout → Top → Type 0
IsTop l top = IfSome top.things (AreAllThings l)

abbrev pub HasThings : Layout → Listed → Type 0
HasThings l listed = AreThingsIn l listed.whole.axis
    (upright (seen_box listed.whole.axis l.extent) listed.whole) listed.things

pub record IsBatch (l : Layout) (b : Batch) : Type 0 where
  pub rectangles : IfSome b.rectangles (IsShared l)
  pub things : IfSome b.things (HasThings l)

-- Columns of a layout that are checked.
pub record AreBatches (b : Batches) : Type 0 where
  pub layout : IsLayout b.layout.now
  pub upright : All (λ c. IsUpright (upright (seen_box c.axis b.layout.now.extent) c)) b.own.now.columns.now
  pub top : IsTop b.layout.now b.top.now

-- A list for each of the next columns from an index on, at least one.
pub record AreNext (s : Snapshot) (columns : List Column) (from : ℕ) (lists : List (List Key)) : Type 0 where
  pub some : 0 < length lists
  pub within : from + length lists ≤ length columns
  pub each : AllZip (IsColumnList s) (take (length lists) (drop from columns)) lists

-- The columns of a layout. The first `count` of them are of V.
pub record IsCounted (s : Snapshot) (count : ℕ) (columns : List Column) : Type 0 where
  pub plan : AreColumnsOfLayout s columns
  pub counted : count ≡ length plan.upright

-- A list for each of the columns of a layout. The first `count` of them are of V.
pub record HaveLists (s : Snapshot) (count : ℕ) (lists : List (List Key)) : Type 0 where
  pub columns : List Column
  pub plan : IsCounted s count columns
  pub each : AllZip (IsColumnList s) columns lists
