-- What came of a command: the texts that are in their places, and how many markers were found.
use Rattle.std.specs.Prelude.{◌≡◌, ℕ, ◌+◌, List, [], ◌∷◌, ◌++◌, false, length, map, slice_get, Option, None, Some, option_map, Result, IfOk}
use Rattle.std.specs.String.{string_bytes}
use Rattle.mpw_firm_grid.specs.Texts.{grid_parts}
use Rattle.mpw_job.specs.Layout.{AreLayoutMarkers}
use Rattle.mpw_markers.specs.declared.marker.Marker.{Marker}
use Rattle.mpw_firm_parts.specs.Parts.{Found}
use Rattle.mpw_firm_parts.specs.Text.{part_text}
use Rattle.mpw_firm_picture.specs.Drawn.{IsDrawnWith}
use Rattle.mpw_firm_picture.specs.Text.{picture_text}
use Rattle.mpw_firm_picture.specs.declared.picture.Picture.{Picture}
use Rattle.mpw_firm_picture.specs.declared.picture.View.{View}
use Rattle.mpw_firm_report.specs.Content.{Noted}
use Rattle.mpw_firm_report.specs.Report.{full_text}
use Rattle.mpw_tiles.specs.Snapshots.{Snapshot}
use Rattle.mpw_firm_spread.specs.Spread.{IsPartOf}
use Rattle.mpw_firm_spread.specs.declared.range.ColumnRange.{ColumnRange}
use Rattle.mpw_firm_options.specs.Commands.{IsOfWord, telling_of}
use Rattle.mpw_firm.specs.Drawings.{AreFlatOf, IsReadBy, IsReadFrom, IsTopOf}
use Rattle.mpw_firm.specs.Keys.{IsViewOf}
use Rattle.mpw_firm_sources.specs.Looks.{IsLookedAt}
use Rattle.mpw_firm_sources.specs.Notes.{notes_of, rule_notes}
use Rattle.mpw_firm_sources.specs.Seen.{told_seen}
use Rattle.mpw_firm_outputs.specs.Counted.{capped}
use Rattle.mpw_firm_outputs.specs.Outputs.{Kept, Grows, in_file, on_output}
use Rattle.mpw_firm.specs.Ranges.{HasColumnsOf}
use Rattle.mpw_firm_sources.specs.Sources.{kept_text}
use Rattle.mpw_firm.specs.Counts.{count_of}
use Rattle.mpw_firm_messages.specs.Status.{exit_of}
use Rattle.mpw_firm.specs.Shown.{Shown, areas_of, content_of, listing_text, most_of}
use Rattle.mpw_firm.specs.Stitched.{IsWholeOf}
use Rattle.mpw_firm.specs.declared.checked.Drawn.{Drawn}
use Rattle.mpw_firm_options.specs.declared.choices.Choices.{Choices}
use Rattle.mpw_firm_options.specs.declared.choices.Portion.{Portion}
use Rattle.mpw_firm_options.specs.declared.choices.Portion.TheVariants as portion
use Rattle.mpw_firm_messages.specs.declared.fault.FirmFault.{FirmFault}
use Rattle.mpw_firm_options.specs.declared.options.Asked.{Asked}
use Rattle.mpw_firm_options.specs.declared.options.Asked.TheVariants as asked
use Rattle.mpw_firm_options.specs.declared.options.Options.{Options}
use Rattle.mpw_firm_options.specs.declared.options.Telling.{Telling}
use Rattle.mpw_firm_options.specs.declared.picture_options.Wanted.{Wanted}
use Rattle.mpw_firm_options.specs.declared.stitch_options.StitchOptions.{StitchOptions}
use Rattle.mpw_firm.specs.declared.whole.Whole.{Whole}

-- ---- texts in their places

-- The report of markers, if a file for it is wanted.
abbrev pub report_texts : Option (List ℕ) → Shown → List Kept
report_texts None s = []
report_texts (Some file) s = in_file file (full_text (content_of s)) ∷ []

-- What is printed, and the report that is wanted.
abbrev pub listing_texts : Option (List ℕ) → Shown → List Kept
listing_texts report s = on_output (listing_text s) ∷ report_texts report s

-- ---- of a check

-- The picture of the layout that is wanted comes after them.
abbrev pub PutsPicture : Option Wanted → Snapshot → Shown → Option (List Kept) → Option (List Kept)
    → List Kept → Type 0
PutsPicture None layout s old new texts = Grows old new texts
PutsPicture (Some wanted) layout s old new texts =
    (view : View) × (picture : Picture)
    × IsViewOf (option_map string_bytes wanted.key) s.parts s.rules layout s.book (most_of s.limit) view
    × IsDrawnWith layout s.book (areas_of s.faults) (length s.faults) view picture
    × Grows old new
    (texts ++ (in_file (string_bytes wanted.file) (picture_text s.rules s.top picture) ∷ []))

-- What is printed, and the report and the picture that are wanted.
abbrev pub PutsAll : Options → Snapshot → Shown → Option (List Kept) → Option (List Kept) → Type 0
PutsAll options layout s old new =
    PutsPicture options.picture layout s old new
    (listing_texts (option_map string_bytes options.report) s)

-- What is shown of a check: the library's file, the limit that is chosen, what is reported of what is looked at, whether the numbers are chosen,
-- and the elements that are left out for their faults.
abbrev pub shown_by : Options → Choices → Drawn → List Marker → Shown
shown_by options choices drawn book = record {
  original = Some (string_bytes options.file);
  top = drawn.top;
  rules = drawn.layout.deck.rules;
  parts = drawn.parts;
  book = book;
  limit = choices.limit;
  notes = notes_of drawn.layout;
  summary = choices.summary;
  faults = map told_seen drawn.left_out.items;
}

-- What is shown of parts with these notes: they name no file, and their markers are listed.
abbrev pub shown_with : List Noted → Option ℕ → Whole → Shown
shown_with notes limit whole = record {
  original = None;
  top = whole.top;
  rules = whole.deck.rules;
  parts = 1;
  book = whole.book;
  limit = limit;
  notes = notes;
  summary = false;
  faults = [];
}

-- Parts don't say which layers have shapes.
abbrev pub shown_whole : Option ℕ → Whole → Shown
shown_whole limit whole = shown_with (rule_notes whole.deck.rules) limit whole

-- A deck and a library were checked, their markers are in all texts that are wanted, and they and the elements that are left out for their
-- faults are so many, up to 2^64 - 1. The markers are those of the flat list of the structure in the library without these elements, whatever
-- the side of the tiles is. If the library's unit is a part of a nanometre, they are so on that grid.
pub record IsChecked (options : Options) (choices : Choices) (old new : Option (List Kept))
    (found : ℕ) : Type 0 where
  pub deck : List ℕ
  pub library : List ℕ
  pub drawn : Drawn
  pub book : List Marker
  pub read : IsReadBy options.top choices deck library drawn
  pub looked : IsLookedAt options.strict drawn.layout
  pub markers : AreLayoutMarkers drawn.layout book
  pub flat : AreFlatOf (grid_parts library) deck drawn.top (kept_text read.source) book
  pub count : found ≡ capped (length book + length drawn.left_out.items)
  pub kept : PutsAll options drawn.layout (shown_by options choices drawn book) old new

-- Some columns of them were, and their part is printed.
pub record IsPartChecked (options : Options) (range : ColumnRange) (old new : Option (List Kept))
    (found : ℕ) : Type 0 where
  pub deck : List ℕ
  pub library : List ℕ
  pub drawn : Drawn
  pub part : Found
  pub top : IsTopOf options.top library drawn.top
  pub read : IsReadFrom deck drawn.top library drawn.layout
  pub looked : IsLookedAt options.strict drawn.layout
  pub made : IsPartOf (record { deck = deck; top = drawn.top; library = library }) part
  pub columns : HasColumnsOf drawn.layout range part
  pub count : found ≡ count_of part.lists
  pub kept : Grows old new (on_output (part_text part) ∷ [])

-- The whole, or the columns that are asked for.
abbrev pub IsCheckDone : Options → Portion → Option (List Kept) → Option (List Kept) → ℕ → Type 0
IsCheckDone options (portion.Whole choices) old new found = IsChecked options choices old new found
IsCheckDone options (portion.Columns range) old new found = IsPartChecked options range old new found

-- ---- of parts

-- Parts were stitched, the markers of their whole are in all texts that are wanted, and they are so many.
pub record IsStitched (options : StitchOptions) (old new : Option (List Kept)) (found : ℕ) : Type 0
  where
    pub parts : List Found
    pub whole : Whole
    pub made : IsWholeOf parts whole
    pub count : found ≡ length whole.book
    pub kept : Grows old new
        (listing_texts (option_map string_bytes options.report) (shown_whole options.limit whole))

-- ---- of a command line

-- What is asked for was done.
abbrev pub IsDone : Asked → Option (List Kept) → Option (List Kept) → ℕ → Type 0
IsDone (asked.Check options) old new found = IsCheckDone options options.portion old new found
IsDone (asked.Stitch options) old new found = IsStitched options old new found
IsDone (asked.Told text) old new found =
    Grows old new (on_output (string_bytes text) ∷ []) × (found ≡ 0)

-- The word after the program's name, and the text that may be printed instead of what a command does, ask for something, and that was done.
abbrev pub IsDoneBy : Option (List ℕ) → Option Telling → Option (List Kept) → Option (List Kept) → ℕ
    → Type 0
IsDoneBy word telling old new found =
    (what : Asked) × IsOfWord word telling what × IsDone what old new found

-- The same of the words of a command line.
abbrev pub IsDoneOf : {A : Type 0} → (A → List ℕ) → List A → Option (List Kept) → Option (List Kept)
    → ℕ → Type 0
IsDoneOf text words old new found =
    IsDoneBy (option_map text (slice_get words 1)) (telling_of text words) old new found

-- The same of some command line.
abbrev pub IsDoneOfSome : Option (List Kept) → Option (List Kept) → ℕ → Type 0
IsDoneOfSome old new found =
    (word : Option (List ℕ)) × (telling : Option Telling) × IsDoneBy word telling old new found

-- The exit status is that of what came: 0 or 1 just if what the words ask for was done.
pub record Ends (old new : Option (List Kept)) (status : ℕ) : Type 0 where
  pub ended : Result ℕ FirmFault
  pub done : IfOk ended (IsDoneOfSome old new)
  pub exit : status ≡ exit_of ended
