-- The words of a line as a slice pattern gives them: the rule or the layer that a number of words spell.
use Rattle.std.proofs.Common.{◌≡◌, ℕ, ◌≤◌, ◌<◌, List, [], ◌∷◌, length, get_or, map, Option, Result, Bor, refl, sym, ap, ◌∙◌, arith}
use Rattle.std.specs.Option.{ok_or}
use Rattle.mpw_deck.specs.declared.deck.DeckKind.{DeckKind}
use Rattle.mpw_deck.specs.declared.deck.DeckKind.TheVariants.{Word}
use Rattle.mpw_deck.specs.declared.rule.Rule.{Rule}
use Rattle.mpw_deck.specs.declared.line.OneLayer.{OneLayer}
use Rattle.mpw_deck.specs.declared.line.TwoLayers.{TwoLayers}
use Rattle.mpw_deck.specs.Reading.{rule_of, one_layer, one_layer_key, one_check, two_layers, two_layer_key, two_check, ◌>>=◌}

abbrev pub Words : Type 0
Words = List (Bor (List ℕ))

abbrev pub texts : Words → List (List ℕ)
texts words = map (λ (x : Bor (List ℕ)). x.now) words

abbrev pub no_word : Bor (List ℕ)
no_word = record { ref_ptr = (0, 0); now = [] }

abbrev word : Words → ℕ → List ℕ
word words n = (get_or words n no_word).now

-- by the key, of four words or of five
abbrev of_one : Words → Option OneLayer → Result Rule DeckKind
of_one words key =
    ok_or key Word >>= λ k. one_layer (one_check k) (word words 1) (word words 2) (word words 3)

abbrev of_two : Words → Option TwoLayers → Result Rule DeckKind
of_two words key = ok_or key Word
    >>= λ k. two_layers (two_check k) (word words 1) (word words 2) (word words 3) (word words 4)

four : (words : Words) → 4 ≤ length words → length words < 5
    → rule_of (texts words) ≡ of_one words (one_layer_key (word words 0))
unfolding rule_of
four [] l m = absurd (omega arith)
four (a ∷ []) l m = absurd (omega arith)
four (a ∷ b ∷ []) l m = absurd (omega arith)
four (a ∷ b ∷ c ∷ []) l m = absurd (omega arith)
four (a ∷ b ∷ c ∷ d ∷ []) l m = refl
four (a ∷ b ∷ c ∷ d ∷ e ∷ words) l m = absurd (omega arith)

five : (words : Words) → 5 ≤ length words → length words < 6
    → rule_of (texts words) ≡ of_two words (two_layer_key (word words 0))
unfolding rule_of
five [] l m = absurd (omega arith)
five (a ∷ []) l m = absurd (omega arith)
five (a ∷ b ∷ []) l m = absurd (omega arith)
five (a ∷ b ∷ c ∷ []) l m = absurd (omega arith)
five (a ∷ b ∷ c ∷ d ∷ []) l m = absurd (omega arith)
five (a ∷ b ∷ c ∷ d ∷ e ∷ []) l m = refl
five (a ∷ b ∷ c ∷ d ∷ e ∷ f ∷ words) l m = absurd (omega arith)

pub by_one : (words : Words) (key : Option OneLayer) → 4 ≤ length words → length words < 5
    → key ≡ one_layer_key (word words 0) → rule_of (texts words) ≡ of_one words key
by_one words key l m e = four words l m ∙ ap (of_one words) (sym e)

pub by_two : (words : Words) (key : Option TwoLayers) → 5 ≤ length words → length words < 6
    → key ≡ two_layer_key (word words 0) → rule_of (texts words) ≡ of_two words key
by_two words key l m e = five words l m ∙ ap (of_two words) (sym e)
