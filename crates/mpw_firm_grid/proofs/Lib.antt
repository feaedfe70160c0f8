-- The lemmas about units and decks.
mod Rules
mod Shares
