-- What is printed about a deck's fault, and about a library that can't be checked.
use Rattle.std.specs.Prelude.{◌≡◌, ◌⊎◌, ℕ, Err, List, ◌++◌, codes, Option, None, Some, if◌then◌else◌}
use Rattle.std.specs.List.{flat_map}
use Rattle.mpw_check.specs.declared.fault.CheckFault.{CheckFault}
use Rattle.mpw_check.specs.declared.fault.CheckFault.TheVariants as kinds
use Rattle.mpw_deck.specs.declared.deck.DeckFault.{DeckFault}
use Rattle.mpw_deck.specs.declared.deck.DeckKind.{DeckKind}
use Rattle.mpw_deck.specs.declared.deck.DeckKind.TheVariants as deck
use Rattle.mpw_deck.specs.Reading.{deck_of}
use Rattle.mpw_deck.specs.Words as decks
use Rattle.mpw_hier.specs.Words.{hier_word}
use Rattle.mpw_hier.specs.declared.fault.HierFault.{HierFault}
use Rattle.mpw_records.specs.Words as records
use Rattle.mpw_records.specs.declared.fault.ReadFault.{ReadFault}
use Rattle.mpw_firm_messages.specs.Colons.{is_of_colon}
use Rattle.mpw_firm_messages.specs.Told.{Tells}
use Rattle.mpw_firm_messages.specs.declared.fault.FirmFault.{FirmFault}
use Rattle.mpw_firm_messages.specs.declared.fault.FirmFault.TheVariants.{Memory}
use Rattle.mpw_firm_messages.specs.Places.{structure_at}
use Rattle.mpw_firm_messages.specs.Sentences.{colon_sentence, deck_sentence, library_sentence, structure_sentence}

-- ---- of a deck

unfoldable pub deck_text : List ℕ → DeckFault → (sentence : List ℕ) → List ℕ
deck_text file fault sentence =
    file ++ (codes ": " ++ (decks.fault_text fault ++ (codes ": " ++ sentence)))

-- By its kind, but of a colon in a rule's name by that.
abbrev pub line_sentence : DeckFault → List ℕ → List ℕ
line_sentence fault text =
    if is_of_colon fault text then colon_sentence else deck_sentence fault.kind

-- Out of memory has no text of its own.
abbrev pub unless_memory : DeckKind → List ℕ → Option (List ℕ)
unless_memory deck.Memory text = None
unless_memory kind text = Some text

-- Of a fault of a deck's text.
abbrev pub deck_told : List ℕ → DeckFault → (text : List ℕ) → Option (List ℕ)
deck_told file fault text =
    unless_memory fault.kind (deck_text file fault (line_sentence fault text))

-- ---- of a library's records

unfoldable pub record_text : (file told sentence : List ℕ) → List ℕ
record_text file told sentence = file ++ (codes ": " ++ (told ++ (codes ": " ++ sentence)))

unfoldable pub named_text : (file told structure sentence : List ℕ) → List ℕ
named_text file told structure sentence =
    file
    ++ (codes ": " ++ (told ++ (codes " in " ++ (structure ++ (codes ": " ++ sentence)))))

-- The structure that the record is in is printed, if there is one.
abbrev pub placed_text : (file told : List ℕ) → Option (List ℕ) → (sentence : List ℕ) → List ℕ
placed_text file told None sentence = record_text file told sentence
placed_text file told (Some structure) sentence = named_text file told structure sentence

abbrev pub library_text : List ℕ → ReadFault → List ℕ → List ℕ
library_text file fault text =
    placed_text file (records.fault_text fault) (structure_at text fault.offset)
    (library_sentence fault text)

-- ---- of its structures

-- The names, with a space before each.
abbrev pub spaced : List (List ℕ) → List ℕ
spaced names = flat_map (λ name. codes " " ++ name) names

unfoldable pub outside_text : List ℕ → List ℕ → List ℕ
outside_text file names =
    file
    ++ (codes ": structures that the library doesn't have:"
    ++ (names ++ codes ": a check by itself needs them in the file"))

unfoldable pub structure_text : (file top : List ℕ) → HierFault → List ℕ
structure_text file top fault =
    file
    ++ (codes ": "
    ++ (top ++ (codes ": " ++ (hier_word fault ++ (codes ": " ++ structure_sentence fault)))))

-- ---- about a library of that text that can't be checked

abbrev pub check_told : (file top : List ℕ) → CheckFault → (text : List ℕ) → Option (List ℕ)
check_told file top kinds.Memory text = None
check_told file top (kinds.Library fault) text = Some (library_text file fault text)
check_told file top (kinds.Outside names) text = Some (outside_text file (spaced names))
check_told file top (kinds.Structure fault) text = Some (structure_text file top fault)

-- A deck's text is refused that has a fault, and that is reported of the file; or memory runs out.
abbrev pub IsOfDeck : (file text : List ℕ) → FirmFault → Type 0
IsOfDeck file text fault =
    (fault ≡ Memory)
    ⊎ ((why : DeckFault) × (deck_of text ≡ Err why) × Tells (deck_told file why text) fault)
