-- Columns that repeat earlier ones: they are identical up to translation.
use Rattle.std.specs.Prelude.{◌≡◌, ◌<◌, ◌≤◌, ◌+◌, ◌-ℤ◌, ℕ, zero, suc, List, [], ◌∷◌, ◌++◌, length, get_or, All, Option, Some, None, ◌⊎◌}
use Rattle.mpw_geom.specs.declared.plane.Box2.{Box2}
use Rattle.mpw_columns_contents.specs.declared.thing.Thing.{Thing}
use Rattle.mpw_columns_contents.specs.Contents.{AreWhole, AreSound}
use Rattle.mpw_columns_contents.specs.Things.{things_items}
use Rattle.mpw_tiles.specs.Snapshots.{shown}
use Rattle.mpw_columns_keys.specs.declared.column.Column.{Column}
use Rattle.mpw_columns_keys.specs.Columns.{seen_box, upright, across}
use Rattle.mpw_columns.specs.declared.layout.Layout.{Layout}
use Rattle.mpw_columns.specs.declared.earlier.Kept.{Kept}
use Rattle.mpw_columns.specs.declared.earlier.Earlier.{Earlier}
use Rattle.mpw_columns.specs.Displaced.{IsDisplaced, ShowsDisplaced}
use Rattle.mpw_columns.specs.Internal.Blocks.{IsUprightIn}

-- The column is the earlier one, displaced, and their windows have the same content, displaced.
pub record IsLike (l : Layout) (earlier column : Column) : Type 0 where
  pub displaced : IsDisplaced (column.from -ℤ earlier.from) earlier column
  pub shown : ShowsDisplaced l.snapshot.now l.extent l.layers.now l.distance (column.from -ℤ earlier.from) earlier

-- For each column none, or the index of an earlier one that it repeats.
pub record AreLikes (l : Layout) (columns : List Column) (likes : List (Option ℕ)) : Type 0 where
  pub long : length likes ≡ length columns
  pub before : (place earlier : ℕ) (o : Option ℕ) → place < length columns
      → get_or likes place o ≡ Some earlier → earlier < place
  pub alike : (place earlier : ℕ) (o : Option ℕ) (c : Column) → place < length columns
      → get_or likes place o ≡ Some earlier → IsLike l (get_or columns earlier c) (get_or columns place c)

-- `count` columns from index `place` on come after as many from index `from` on, and each repeats its counterpart.
pub record AreAlike (l : Layout) (columns : List Column) (from place count : ℕ) : Type 0 where
  pub before : from + count ≤ place
  pub each : (k : ℕ) (c : Column) → k < count
      → IsLike l (get_or columns (from + k) c) (get_or columns (place + k) c)

-- The columns that repeat no earlier one.
abbrev pub own_columns : List Column → List (Option ℕ) → List Column
own_columns [] likes = []
own_columns (c ∷ cs) [] = []
own_columns (c ∷ cs) (None ∷ likes) = c ∷ own_columns cs likes
own_columns (c ∷ cs) (Some earlier ∷ likes) = own_columns cs likes

-- ---- how they are found

-- The window of a column of a layout.
abbrev pub window_along : Layout → Column → Box2
window_along l c =
    seen_box c.axis (across (upright (seen_box c.axis l.extent) c) (l.distance + 1))

-- What of the layout touches the column's window, as entries: all of it, and nothing that the layout doesn't have.
pub record AreContentsOf (l : Layout) (c : Column) (things : List Thing) : Type 0 where
  pub whole : AreWhole (window_along l c) (shown l.snapshot.now) (things_items l.snapshot.now.shelf things)
  pub sound : AreSound (shown l.snapshot.now) (things_items l.snapshot.now.shelf things)

-- The column at the first index repeats the earlier one at the second index, if there is one.
abbrev pub IsLikeAt : Layout → List Column → (place : ℕ) → Option ℕ → Type 0
IsLikeAt l columns place None = Unit {0}
IsLikeAt l columns place (Some earlier) =
    (earlier < place) × ((c : Column) → IsLike l (get_or columns earlier c) (get_or columns place c))

-- This holds for the first n columns.
pub record AreFirstLikes (l : Layout) (columns : List Column) (n : ℕ) (likes : List (Option ℕ)) : Type 0 where
  pub long : length likes ≡ n
  pub each : (place : ℕ) (o : Option ℕ) → place < n → IsLikeAt l columns place (get_or likes place o)

-- Contents of a block that are held: they are those of the block's column.
pub record IsKept (l : Layout) (k : Kept) : Type 0 where
  pub upright : IsUprightIn l k.block.whole
  pub contents : AreContentsOf l k.block.whole k.contents

-- A list stays, or has that after its last.
abbrev pub MayAdd : Kept → (old new : List Kept) → Type 0
MayAdd k old new = (new ≡ old) ⊎ (new ≡ old ++ k ∷ [])

-- What is decided about the first n columns, and what is held.
pub record IsTold (l : Layout) (columns : List Column) (n : ℕ) (e : Earlier) : Type 0 where
  pub told : AreFirstLikes l columns n e.likes.items
  pub kept : All (IsKept l) e.kept.items

-- `count` consecutive indices, each as the answer for a column.
abbrev pub places_from : ℕ → (count : ℕ) → List (Option ℕ)
places_from earlier zero = []
places_from earlier (suc count) = places_from earlier count ++ Some (earlier + count) ∷ []
