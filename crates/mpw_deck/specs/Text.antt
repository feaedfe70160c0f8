-- A text with the result of reading it.
use Rattle.std.specs.Prelude.{◌≡◌, Result, Ok, Err}
use Rattle.mpw_deck.specs.declared.deck.DeckFault.{DeckFault}
use Rattle.mpw_deck.specs.declared.text.DeckError.{DeckError}
use Rattle.mpw_deck.specs.declared.text.DeckError.TheVariants as errors
use Rattle.mpw_deck.specs.Decks.{Deck}

-- The deck, or the first faulty line with its first fault, is the expected one, unless it is out of memory.
abbrev pub GivesDeck : Result Deck DeckError → Result Deck DeckFault → Type 0
GivesDeck (Ok deck) told = told ≡ Ok deck
GivesDeck (Err errors.Memory) told = Unit {0}
GivesDeck (Err (errors.Fault fault)) told = told ≡ Err fault
