-- Parts of a layout's check, and what comes of them.
use Rattle.std.specs.Prelude.{◌≡◌, ℕ, List, length, slice_get, All, Option, Some, Ok}
use Rattle.std.specs.List.{AllZip}
use Rattle.sha2.specs.Sha256.{sha256}
use Rattle.mpw_geom.specs.declared.plane.Box2.{Box2}
use Rattle.mpw_deck.specs.Decks.{Deck}
use Rattle.mpw_deck.specs.Reading.{deck_of}
use Rattle.mpw_check.specs.Drawn.{IsDrawnFrom}
use Rattle.mpw_columns.specs.Lists.{IsColumnList}
use Rattle.mpw_job.specs.Layout.{AreLayoutMarkers}
use Rattle.mpw_markers.specs.declared.marker.Marker.{Marker}
use Rattle.mpw_firm_parts.specs.Parts.{Checked, Found}
use Rattle.mpw_firm_parts.specs.Stitching.{IsBookOf}
use Rattle.mpw_tiles.specs.Snapshots.{Snapshot, IsSnapshot, shown_extent}

-- What is checked: the deck's text, the structure's name and the library's text.
pub record Texts : Type 0 where
  pub deck : List ℕ
  pub top : List ℕ
  pub library : List ℕ

-- What a part says of them if the layout has this extent and so many columns.
abbrev pub subject_of : Texts → Option Box2 → ℕ → Checked
subject_of texts extent columns = record {
  library = sha256 texts.library;
  deck = texts.deck;
  top = texts.top;
  extent = extent;
  columns = columns;
}

-- The deck and the library give the snapshot, which has the extent that the part names.
pub record AreOf (texts : Texts) (snapshot : Snapshot) (subject : Checked) : Type 0 where
  pub rules : Deck
  pub read : deck_of texts.deck ≡ Ok rules
  pub drawn : IsDrawnFrom rules texts.top texts.library snapshot
  pub told : subject ≡ subject_of texts (shown_extent snapshot) subject.columns

-- A part of the check of these texts: its lists are those of columns of their layout.
pub record IsPartOf (texts : Texts) (part : Found) : Type 0 where
  pub snapshot : Snapshot
  pub sound : IsSnapshot snapshot
  pub made : AreOf texts snapshot part.subject
  pub own : AllZip (IsColumnList snapshot) part.columns part.lists

-- A part of the check of some texts, of which the library is this one if it has its SHA-256.
pub record IsPartBeside (texts : Texts) (part : Found) : Type 0 where
  pub others : Texts
  pub of_others : IsPartOf others part
  pub one : sha256 others.library ≡ sha256 texts.library → others.library ≡ texts.library

-- Of parts that are stitched, each made of files anywhere, the book has just the markers of the flat layout of the files that the first
-- was made of, if no other library has the SHA-256 of theirs.
abbrev pub PartsMakeTheLayout : Type 0
PartsMakeTheLayout =
    (texts : Texts) (first : Found) (parts : List Found) (book : List Marker)
    → slice_get parts 0 ≡ Some first → (made : IsPartOf texts first)
    → All (IsPartBeside texts) parts
    → IsBookOf (length made.snapshot.deck.rules) parts book
    → AreLayoutMarkers made.snapshot book
