-- Whether a deck's line is refused for a colon in its rule's name.
use Rattle.std.specs.Prelude.{ℕ, ◌-◌, ◌==◌, ◌&&◌, ◌||◌, Bool, false, List, [], ◌∷◌, codes, slice_get, Option, None, Some}
use Rattle.std.specs.List.{list_any}
use Rattle.mpw_deck.specs.declared.deck.DeckFault.{DeckFault}
use Rattle.mpw_deck.specs.declared.deck.DeckKind.{DeckKind}
use Rattle.mpw_deck.specs.declared.deck.DeckKind.TheVariants as deck
use Rattle.mpw_geom.specs.Names.{name_eq}
use Rattle.mpw_text.specs.Text.{lines_of, words_of}

-- A word begins a rule's line.
abbrev pub is_check : List ℕ → Bool
is_check word =
    name_eq word (codes "width") || name_eq word (codes "space")
    || name_eq word (codes "separation")
    || name_eq word (codes "enclosing")

-- The name after it has a colon.
abbrev pub has_colon : List (List ℕ) → Bool
has_colon [] = false
has_colon (word ∷ []) = false
has_colon (word ∷ name ∷ words) = is_check word && list_any (λ b. b == 58) name

abbrev pub colon_in : Option (List ℕ) → Bool
colon_in None = false
colon_in (Some line) = has_colon (words_of line)

-- A fault of a line's words, in a rule whose name has a colon.
abbrev pub is_of_colon : DeckFault → List ℕ → Bool
is_of_colon fault text = of fault.kind (colon_in (slice_get (lines_of text) (fault.line - 1)))
  where
    of : DeckKind → Bool → Bool
    of deck.Word colon = colon
    of kind colon = false
