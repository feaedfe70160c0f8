-- What is checked, by the texts of a deck and a library; and why it can't be.
use Rattle.std.specs.Prelude.{◌≡◌, ◌⊎◌, ◌++◌, ℕ, Bool, true, false, List, codes, map, Option, None, Some, unwrap_or, Ok, Err}
use Rattle.std.specs.String.{string_bytes}
use Rattle.mpw_check.specs.Drawn.{drawn_shelf, IsDrawnFrom, IsOfText}
use Rattle.mpw_check.specs.declared.fault.CheckFault.{CheckFault}
use Rattle.mpw_firm_choices.specs.Sides.{with_side}
use Rattle.mpw_firm_choices.specs.Tops.{only_top}
use Rattle.mpw_deck.specs.Decks.{Deck}
use Rattle.mpw_deck.specs.Reading.{deck_of}
use Rattle.mpw_firm_messages.specs.declared.fault.FirmFault.{FirmFault}
use Rattle.mpw_firm_messages.specs.declared.fault.FirmFault.TheVariants.{Memory}
use Rattle.mpw_firm.specs.Grids.{deck_for, library_on, rules_for}
use Rattle.mpw_firm.specs.declared.checked.Drawn.{Drawn}
use Rattle.mpw_firm_grid.specs.Texts.{grid_parts}
use Rattle.mpw_firm_options.specs.declared.choices.Choices.{Choices}
use Rattle.mpw_firm_options.specs.declared.options.Options.{Options}
use Rattle.mpw_firm_sources.specs.Seen.{told_left_out, told_seen}
use Rattle.mpw_firm_sources.specs.Sources.{Source, IsSourceOf, kept_text, moved, moved_fault}
use Rattle.mpw_hier.specs.Values.{flat}
use Rattle.mpw_job.specs.Layout.{AreFlatMarkers, AreLayoutMarkers}
use Rattle.mpw_library.specs.Grammar.{library_of}
use Rattle.mpw_markers.specs.declared.marker.Marker.{Marker}
use Rattle.mpw_records.specs.declared.fault.ReadFault.{ReadFault}
use Rattle.mpw_structures.specs.declared.structures.Structure.{Structure}
use Rattle.mpw_firm_messages.specs.Told.{Refuses, Tells}
use Rattle.mpw_firm_messages.specs.ToldFaults.{IsOfDeck, check_told, library_text}
use Rattle.mpw_tiles.specs.Snapshots.{Snapshot}

-- The texts are a deck's and a library's, whose structure of that name is drawn under the deck.
abbrev pub IsReadFrom : (deck top library : List ℕ) → Snapshot → Type 0
IsReadFrom deck top library snapshot =
    (rules : Deck) × (deck_of deck ≡ Ok rules) × IsDrawnFrom rules top library snapshot

-- ---- the structure that is checked

-- It is the one that is named, or the only one that nothing places.
abbrev pub IsTopOf : Option (List ℕ) → (text top : List ℕ) → Type 0
IsTopOf (Some name) text top = top ≡ name
IsTopOf None text top = only_top text ≡ Some top

-- It is drawn under the deck, of a library's text as it is read. With it are the elements that are left out for their faults.
pub record IsDrawnBy (top : Option (List ℕ)) (deck : Deck) (source : Source) (drawn : Drawn) :
    Type 0 where
  pub named : IsTopOf top (kept_text source) drawn.top
  pub from : IsDrawnFrom deck drawn.top (kept_text source) drawn.layout
  pub left : map told_seen drawn.left_out.items ≡ told_left_out source drawn.top

-- The deck is that of the text, with that side if there is one.
abbrev pub IsDeckOf : Option ℕ → List ℕ → Deck → Type 0
IsDeckOf side text deck = (rules : Deck) × (deck_of text ≡ Ok rules) × (deck ≡ with_side side rules)

-- The same on a grid, if there is one.
abbrev pub IsDeckOn : (grid : Option ℕ) → Option ℕ → List ℕ → Deck → Type 0
IsDeckOn grid side text deck =
    (made : Deck) × IsDeckOf side text made × (deck ≡ deck_for grid made)

-- It is drawn of the texts of a deck and a library, with that side if there is one.
pub record IsDrawnOf (top : Option (List ℕ)) (side : Option ℕ) (deck : List ℕ) (source : Source)
    (drawn : Drawn) : Type 0 where
  pub made : Deck
  pub read : IsDeckOf side deck made
  pub by : IsDrawnBy top made source drawn

-- The structure which has to reach what is read: the one that is named, if that is asked for.
abbrev pub above : Bool → Option (List ℕ) → Option (List ℕ)
above false top = None
above true top = top

-- The same as it is chosen: without the elements on some layers, the structures that aren't reached, and the elements with faults. If the
-- library's unit is a part of a nanometre, all is on that grid.
pub record IsReadBy (top : Option (List ℕ)) (choices : Choices) (deck library : List ℕ)
    (drawn : Drawn) : Type 0 where
  pub source : Source
  pub made : Deck
  pub left : IsSourceOf choices.skip.items (above choices.unreached top) choices.faultless
      (library_on (grid_parts library) library) source
  pub read : IsDeckOn (grid_parts library) choices.tile deck made
  pub by : IsDrawnBy top made source drawn
  pub counts : drawn.parts ≡ unwrap_or (grid_parts library) 1

-- ---- the markers of it

-- They are those of the flat list of a library's structure, by itself, under the deck's rules, on a grid if there is one: no tile has a part
-- in them.
abbrev pub AreFlatOf : (grid : Option ℕ) → (deck top library : List ℕ) → List Marker → Type 0
AreFlatOf grid deck top library book =
    (rules : Deck) × (structures : List Structure) × (deck_of deck ≡ Ok rules)
    × (library_of library ≡ Ok structures)
    × AreFlatMarkers (rules_for grid rules.rules) (flat (drawn_shelf top structures) 0) book

-- A layout's markers are, whatever the side of the tiles is.
abbrev pub AreFlatByEachSide : Type 0
AreFlatByEachSide =
    (grid side : Option ℕ) (deck top library : List ℕ) (made : Deck) (layout : Snapshot)
    (book : List Marker)
    → IsDeckOn grid side deck made → IsDrawnFrom made top library layout
    → AreLayoutMarkers layout book
    → AreFlatOf grid deck top library book

-- ---- why it isn't checked

-- The structure of that name can't be checked, of a library's text as it is read, and that is printed with the place in the text; or
-- memory runs out.
abbrev pub IsOfSource : (file top : List ℕ) → Source → FirmFault → Type 0
IsOfSource file top source fault =
    (fault ≡ Memory)
    ⊎ ((why : CheckFault) × IsOfText top (kept_text source) why
    × Tells (check_told file top (moved source why) source.text) fault)

unfoldable pub no_top_text : List ℕ → List ℕ
no_top_text file =
    file
    ++ codes ": not just one structure is placed by no other: name the one to check with --top"

-- No structure is named, and the text has a fault, or not just one of its structures is placed by no other; or memory runs out.
abbrev pub IsOfNoTop : List ℕ → Source → FirmFault → Type 0
IsOfNoTop file source fault =
    (fault ≡ Memory)
    ⊎ ((why : ReadFault) × (library_of (kept_text source) ≡ Err why)
    × Refuses (library_text file (moved_fault source why) source.text) fault)
    ⊎ ((only_top (kept_text source) ≡ None) × Refuses (no_top_text file) fault)

-- One of the two.
abbrev pub IsOfDrawing : List ℕ → Option (List ℕ) → Source → FirmFault → Type 0
IsOfDrawing file top source fault =
    IsOfNoTop file source fault
    ⊎ ((name : List ℕ) × IsTopOf top (kept_text source) name
    × IsOfSource file name source fault)

-- Nothing is checked of these texts: the deck's is refused; or it is a deck's, and the library's is refused.
abbrev pub IsOfTexts : Options → Option ℕ → List ℕ → Source → FirmFault → Type 0
IsOfTexts options side deck source fault =
    IsOfDeck (string_bytes options.deck) deck fault
    ⊎ ((made : Deck) × IsDeckOf side deck made
    × IsOfDrawing (string_bytes options.file) options.top source fault)
