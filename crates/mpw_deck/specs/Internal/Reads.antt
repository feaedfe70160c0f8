-- For private functions and proofs: the results of reading a part of a deck's text.
use Rattle.std.specs.Prelude.{◌≡◌, Result, Ok, Err}
use Rattle.mpw_deck.specs.declared.deck.DeckKind.{DeckKind}
use Rattle.mpw_deck.specs.declared.deck.DeckKind.TheVariants.{Memory}

-- the fault is the expected one, or out of memory
abbrev pub Refuses : {A : Type 0} → DeckKind → Result A DeckKind → Type 0
Refuses Memory told = Unit {0}
Refuses kind told = told ≡ Err kind

-- the result is the expected one, unless it is out of memory
abbrev pub Reads : {A : Type 0} → Result A DeckKind → Result A DeckKind → Type 0
Reads (Ok x) told = told ≡ Ok x
Reads (Err kind) told = Refuses kind told
