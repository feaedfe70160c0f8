-- Parts of a check: what was checked, and the keys of some of the columns into which the layout is cut.
use Rattle.std.specs.Prelude.{◌≡◌, ◌≤◌, ◌<◌, ◌≤ℤ◌, ◌<ℤ◌, ◌^◌, ◌+◌, FitsSigned, ℕ, ℤ, List, length, All, Option, IfSome}
use Rattle.std.specs.List.{AllZip}
use Rattle.std.specs.Int.{w64}
use Rattle.hex.specs.Hex.{IsBytes}
use Rattle.mpw_geom.specs.declared.plane.Box2.{Box2}
use Rattle.mpw_geom.specs.Name.{IsName}
use Rattle.mpw_markers.specs.declared.marker.Key.{Key}
use Rattle.mpw_columns_keys.specs.declared.column.Column.{Column}
use Rattle.mpw_columns_keys.specs.Keys.{AreInOrder}

-- What is checked: the SHA-256 of the library's text, the deck's text, the structure's name, the extent of what is checked where there
-- are shapes, and into how many columns it is cut.
pub record Checked : Type 0 where
  pub library : List ℕ
  pub deck : List ℕ
  pub top : List ℕ
  pub extent : Option Box2
  pub columns : ℕ

-- Columns that are one after another among those, from the first of them on, and the keys of each.
pub record Found : Type 0 where
  pub subject : Checked
  pub first : ℕ
  pub columns : List Column
  pub lists : List (List Key)

-- There are at most 2^22 columns.
abbrev pub IsFew : Checked → Type 0
IsFew subject = subject.columns ≤ 4194304

-- The key is on the column's axis, its first edge lies in the column, and it has a row.
pub record IsKeyOf (c : Column) (k : Key) : Type 0 where
  pub on_axis : k.piece.axis ≡ c.axis
  pub left : c.from ≤ℤ k.piece.x1
  pub right : k.piece.x1 <ℤ c.to
  pub filled : k.piece.y0 <ℤ k.piece.y1

-- The column has a place, and the keys are of it.
pub record IsListOf (c : Column) (keys : List Key) : Type 0 where
  pub some : c.from <ℤ c.to
  pub all : All (IsKeyOf c) keys

-- There is a list for each column, which is of it, and the columns are among those of the whole.
pub record IsWithin (part : Found) : Type 0 where
  pub few : part.first + length part.lists ≤ part.subject.columns
  pub lists : AllZip IsListOf part.columns part.lists

-- ---- what the fields of a part's types can have

abbrev pub IsSigned : ℤ → Type 0
IsSigned z = FitsSigned w64 z

pub record IsKey (k : Key) : Type 0 where
  pub rule : k.rule < 2 ^ 32
  pub side : k.piece.side < 2 ^ 8
  pub x1 : IsSigned k.piece.x1
  pub x2 : IsSigned k.piece.x2
  pub y0 : IsSigned k.piece.y0
  pub y1 : IsSigned k.piece.y1

pub record IsColumn (c : Column) : Type 0 where
  pub from : IsSigned c.from
  pub to : IsSigned c.to

pub record IsBox (b : Box2) : Type 0 where
  pub x0 : IsSigned b.x0
  pub y0 : IsSigned b.y0
  pub x1 : IsSigned b.x1
  pub y1 : IsSigned b.y1

pub record AreKeys (keys : List Key) : Type 0 where
  pub ordered : AreInOrder keys
  pub all : All IsKey keys

pub record IsChecked (subject : Checked) : Type 0 where
  pub digest : length subject.library ≡ 32
  pub library : IsBytes subject.library
  pub deck : IsBytes subject.deck
  pub top : IsName subject.top
  pub extent : IfSome subject.extent IsBox
  pub few : IsFew subject

pub record IsPart (part : Found) : Type 0 where
  pub subject : IsChecked part.subject
  pub within : IsWithin part
  pub columns : All IsColumn part.columns
  pub lists : All AreKeys part.lists
