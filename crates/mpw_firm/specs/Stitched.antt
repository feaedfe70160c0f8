-- What comes of parts that are stitched, and what is refused.
use Rattle.std.specs.Prelude.{◌≡◌, ◌⊎◌, ℕ, Bool, true, false, List, [], ◌∷◌, codes, length, slice_get, All, None, Some, Ok}
use Rattle.mpw_deck.specs.Reading.{deck_of}
use Rattle.mpw_job.specs.Layout.{AreLayoutMarkers}
use Rattle.mpw_markers.specs.declared.marker.Marker.{Marker}
use Rattle.mpw_firm_parts.specs.Parts.{Found}
use Rattle.mpw_firm_parts.specs.Reading.{part_of, is_older, begins_as_part}
use Rattle.mpw_firm_parts.specs.Stitching.{IsBookOf, IsFaultOf}
use Rattle.mpw_firm_parts.specs.declared.fault.PartsFault.{PartsFault}
use Rattle.mpw_firm_spread.specs.Spread.{Texts, IsPartOf, IsPartBeside}
use Rattle.mpw_firm_messages.specs.declared.fault.FirmFault.{FirmFault}
use Rattle.mpw_firm_messages.specs.declared.fault.FirmFault.TheVariants.{Memory}
use Rattle.mpw_firm.specs.declared.whole.Subject.{Subject}
use Rattle.mpw_firm.specs.declared.whole.Whole.{Whole}
use Rattle.mpw_firm_listing.specs.Listing.{listing_text}
use Rattle.mpw_firm_messages.specs.ToldFaults.{IsOfDeck}
use Rattle.mpw_firm_messages.specs.Told.{Refuses, Tells}
use Rattle.mpw_firm_messages.specs.ToldParts.{Holder, no_markers_text, no_part_text, older_text, damaged_text, fault_text}

-- A file is refused whose text is no part, with a text of its own if it begins as an older part, and another if it begins as a part; or
-- memory runs out.
abbrev pub unread_text : (older begun : Bool) → List ℕ → List ℕ
unread_text true begun file = older_text file
unread_text false true file = damaged_text file
unread_text false false file = no_part_text file

abbrev pub IsOfFile : List ℕ → List ℕ → FirmFault → Type 0
IsOfFile file text fault =
    (fault ≡ Memory)
    ⊎ ((part_of text ≡ None)
    × Refuses (unread_text (is_older text) (begins_as_part text) file) fault)

-- ---- parts of these files, of a layout with so many columns under so many rules

-- The parts aren't stitched, and why is printed.
abbrev pub IsOfParts : List Holder → (columns rules : ℕ) → List Found → FirmFault → Type 0
IsOfParts holders columns rules parts fault =
    (why : PartsFault) × IsFaultOf rules parts why × Tells (fault_text holders columns why) fault

-- ---- the whole

-- The deck, the structure's name and the number of columns are those that the first of the parts has.
pub record IsSubjectOf (parts : List Found) (subject : Subject) : Type 0 where
  pub first : Found
  pub at : slice_get parts 0 ≡ Some first
  pub deck : deck_of first.subject.deck ≡ Ok subject.deck
  pub top : subject.top ≡ first.subject.top
  pub columns : subject.columns ≡ first.subject.columns

-- The name of the first file; if there is none, the command's.
abbrev pub first_name : List Holder → List ℕ
first_name [] = codes "mpw stitch"
first_name (first ∷ rest) = first.name

-- There is no part, or the first one's deck has a fault, which is reported of the first file.
abbrev pub IsOfFirst : List Holder → List Found → FirmFault → Type 0
IsOfFirst holders parts fault =
    ((parts ≡ []) × Refuses no_markers_text fault)
    ⊎ ((first : Found)
    × (slice_get parts 0 ≡ Some first)
    × IsOfDeck (first_name holders) first.subject.deck fault)

-- The first of the parts has no deck, name and columns; or it has, and the parts have no book under its deck.
abbrev pub IsOfWhole : List Holder → List Found → FirmFault → Type 0
IsOfWhole holders parts fault =
    IsOfFirst holders parts fault
    ⊎ ((subject : Subject)
    × IsSubjectOf parts subject
    × IsOfParts holders subject.columns (length subject.deck.rules) parts fault)

-- The book is that of the parts. The deck, the structure's name and the number of columns are those of the first part.
pub record IsWholeOf (parts : List Found) (whole : Whole) : Type 0 where
  pub first : Found
  pub at : slice_get parts 0 ≡ Some first
  pub deck : deck_of first.subject.deck ≡ Ok whole.deck
  pub top : whole.top ≡ first.subject.top
  pub columns : whole.columns ≡ first.subject.columns
  pub book : IsBookOf (length whole.deck.rules) parts whole.book

-- ---- law

-- Of parts, each made of files anywhere, what is listed of the whole is what a check lists of the files that the first was made of, if
-- no other library has the SHA-256 of theirs.
abbrev pub IsListedAsCheck : List Found → Whole → Type 0
IsListedAsCheck parts whole =
    (texts : Texts) (first : Found) (book : List Marker) → slice_get parts 0 ≡ Some first
    → (made : IsPartOf texts first) → All (IsPartBeside texts) parts
    → AreLayoutMarkers made.snapshot book
    → listing_text 1 whole.top whole.deck.rules whole.book
    ≡ listing_text 1 texts.top made.snapshot.deck.rules book

abbrev pub WholesAreListedAsChecks : Type 0
WholesAreListedAsChecks =
    (parts : List Found) (whole : Whole) → IsWholeOf parts whole → IsListedAsCheck parts whole
