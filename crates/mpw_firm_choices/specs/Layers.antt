-- Layers in a word: L/D, and more of them after commas.
use Rattle.std.specs.Prelude.{ℕ, ◌==◌, List, [], ◌∷◌, Option, None, Some}
use Rattle.std.specs.List.{slice_split}
use Rattle.mpw_deck.specs.Reading.{layer_from}
use Rattle.mpw_geom.specs.declared.plane.Layer.{Layer}

-- Two numbers to 65535 with a slash between them.
abbrev pub layer_in : List ℕ → Option Layer
layer_in word = layer_from (slice_split (λ b. b == 47) word)

abbrev pub behind : Layer → Option (List Layer) → Option (List Layer)
behind layer None = None
behind layer (Some layers) = Some (layer ∷ layers)

abbrev pub before : Option Layer → Option (List Layer) → Option (List Layer)
before None layers = None
before (Some layer) layers = behind layer layers

-- Those of words, if each is one.
abbrev pub layers_in : List (List ℕ) → Option (List Layer)
layers_in [] = Some []
layers_in (word ∷ words) = before (layer_in word) (layers_in words)

abbrev pub layers_of : List ℕ → Option (List Layer)
layers_of word = layers_in (slice_split (λ b. b == 44) word)
