-- A side for tiles that replaces the deck's.
use Rattle.std.specs.Prelude.{ℕ, Option, None, Some}
use Rattle.mpw_deck.specs.Decks.{Deck}

-- The deck has that side, if there is one, and its rules.
abbrev pub with_side : Option ℕ → Deck → Deck
with_side None deck = deck
with_side (Some side) deck = record { tile = side; rules = deck.rules }
