-- The words of a line's faults.
use Rattle.std.specs.Prelude.{ℕ, List, ◌++◌, codes}
use Rattle.std.specs.Fmt.{decimal}
use Rattle.mpw_deck.specs.declared.deck.DeckKind.{DeckKind}
use Rattle.mpw_deck.specs.declared.deck.DeckKind.TheVariants as deck
use Rattle.mpw_deck.specs.declared.deck.DeckFault.{DeckFault}

unfoldable pub kind_words : DeckKind → List ℕ
kind_words deck.Word = codes "word"
kind_words deck.Number = codes "number"
kind_words deck.Layer = codes "layer"
kind_words deck.SameLayer = codes "two equal layers"
kind_words deck.DoubleRule = codes "a rule's name used twice"
kind_words deck.Tile = codes "the tile line stands first, and once"
kind_words deck.Rules = codes "more than 256 rules"
kind_words deck.Memory = codes "out of memory"

unfoldable pub fault_text : DeckFault → List ℕ
fault_text fault = codes "line " ++ (decimal fault.line ++ (codes ": " ++ kind_words fault.kind))
