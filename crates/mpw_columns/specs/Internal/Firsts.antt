-- The first keys of columns, which share them, displaced.
use Rattle.std.specs.Prelude.{◌≡◌, ◌*◌, ◌++◌, ◌-ℤ◌, ◌≤ℤ◌, ◌^◌, ℕ, ℤ, pos, neg_ℤ, List, length, map, All, Some, slice_get}
use Rattle.std.specs.List.{AllZip}
use Rattle.mpw_tiles.specs.Snapshots.{Snapshot}
use Rattle.mpw_markers.specs.declared.marker.Key.{Key}
use Rattle.mpw_columns_keys.specs.declared.column.Column.{Column}
use Rattle.mpw_columns_keys.specs.declared.first.Firsts.{Firsts}
use Rattle.mpw_columns_keys.specs.declared.placed.Placed.{Placed}
use Rattle.mpw_columns_keys.specs.Firsts.{AreFirsts, AreNear, IsListed}
use Rattle.mpw_columns_keys.specs.Keys.{displaced_key, IsNear}
use Rattle.mpw_columns.specs.declared.first.Listing.{Listing}
use Rattle.mpw_columns.specs.Lists.{IsColumnList}
use Rattle.mpw_columns.specs.Internal.Checked.{IsCounted}

-- The first of the lists of these keys were added for each of them.
pub record AddsFirsts (most lists : ℕ) (each : List (List Key)) (old new : List Firsts) : Type 0 where
  pub more : List Firsts
  pub is : new ≡ old ++ more
  pub are : AllZip (AreFirsts most lists) each more

-- They are the first of the lists of the column's keys.
pub record HasFirsts (s : Snapshot) (most lists : ℕ) (c : Column) (f : Firsts) : Type 0 where
  pub keys : List Key
  pub list : IsColumnList s c keys
  pub are : AreFirsts most lists keys f

-- The position is one that a column of a layout can have.
pub record IsSpot (x : ℤ) : Type 0 where
  pub low : neg_ℤ (pos (2 ^ 40)) ≤ℤ x
  pub high : x ≤ℤ pos (2 ^ 40)

-- The column's keys are those of one of the own columns, displaced.
pub record IsPlacedAt (s : Snapshot) (own : List Column) (c : Column) (p : Placed) : Type 0 where
  pub first : Column
  pub at : slice_get own p.list ≡ Some first
  pub spot : IsSpot first.from
  pub by : p.by ≡ (c.from -ℤ first.from)
  pub near : IsNear p.by
  pub list : (keys : List Key) → IsColumnList s first keys → IsColumnList s c (map (displaced_key p.by) keys)

-- The columns have lists, of which these are the first; all is within bounds.
pub record HasListing (s : Snapshot) (most : ℕ) (columns : List Column) (l : Listing) : Type 0 where
  pub lists : List (List Key)
  pub each : AllZip (IsColumnList s) columns lists
  pub are : AllZip (IsListed most (2 * length s.deck.rules) l.firsts.items) l.placed.items lists
  pub near : All AreNear l.firsts.items
  pub by : All (λ p. IsNear p.by) l.placed.items

-- The same for the columns of a layout. The first `count` of them are of V.
pub record HasLayoutListing (s : Snapshot) (most count : ℕ) (l : Listing) : Type 0 where
  pub columns : List Column
  pub plan : IsCounted s count columns
  pub listing : HasListing s most columns l
