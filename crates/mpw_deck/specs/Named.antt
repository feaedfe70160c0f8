-- The names of a deck's rules, which identify the rules of markers.
use Rattle.std.specs.Prelude.{◌≡◌, ◌≢◌, ℕ, List, All, AllPairs, Contains, Ok, Err}
use Rattle.mpw_deck.specs.declared.deck.DeckFault.{DeckFault}
use Rattle.mpw_deck.specs.declared.deck.DeckKind.TheVariants.{Memory}
use Rattle.mpw_deck.specs.declared.rule.Rule.{Rule}
use Rattle.mpw_deck.specs.Decks.{Deck}
use Rattle.mpw_deck.specs.Reading.{deck_of}

-- The rules have different names.
abbrev pub DifferByName : Rule → Rule → Type 0
DifferByName a b = a.name ≢ b.name

-- A rule's name has no colon, since colons separate the parts of a marker's key.
abbrev pub HasPlainName : Rule → Type 0
HasPlainName rule = Contains rule.name 58 → ⊥

-- No two rules have the same name, and no name has a colon.
pub record AreNamed (rules : List Rule) : Type 0 where
  pub apart : AllPairs DifferByName rules
  pub plain : All HasPlainName rules

-- The rules of each deck that a text spells have such names.
abbrev pub ReadDecksAreNamed : Type 0
ReadDecksAreNamed = (text : List ℕ) (deck : Deck) → deck_of text ≡ Ok deck → AreNamed deck.rules

-- The fault of a text is never out of memory.
abbrev pub FaultsAreOfTexts : Type 0
FaultsAreOfTexts =
    (text : List ℕ) (fault : DeckFault) → deck_of text ≡ Err fault → fault.kind ≢ Memory
