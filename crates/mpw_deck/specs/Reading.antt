-- What a deck's text spells, or its first faulty line with its first fault.
use Rattle.std.specs.Prelude.{ℕ, ◌+◌, ◌^◌, Bool, false, ◌&&◌, not, List, [], ◌∷◌, ◌++◌, length, ◌==◌, nat_le, if◌then◌else◌, Option, Some, None, Result, Ok, Err, codes}
use Rattle.std.specs.Option.{ok_or}
use Rattle.std.specs.List.{slice_split, list_any, list_all}
use Rattle.mpw_geom.specs.declared.plane.Layer.{Layer}
use Rattle.mpw_geom.specs.Layers.{same_layer}
use Rattle.mpw_geom.specs.Names.{name_eq}
use Rattle.mpw_deck.specs.declared.deck.DeckKind.{DeckKind}
use Rattle.mpw_deck.specs.declared.deck.DeckKind.TheVariants as kinds
use Rattle.mpw_deck.specs.declared.deck.DeckFault.{DeckFault}
use Rattle.mpw_deck.specs.Decks.{Deck}
use Rattle.mpw_deck.specs.declared.rule.Rule.{Rule}
use Rattle.mpw_deck.specs.declared.rule.Check.{Check}
use Rattle.mpw_deck.specs.declared.rule.Check.TheVariants as checks
use Rattle.mpw_deck.specs.declared.line.OneLayer.{OneLayer}
use Rattle.mpw_deck.specs.declared.line.OneLayer.TheVariants as one
use Rattle.mpw_deck.specs.declared.line.TwoLayers.{TwoLayers}
use Rattle.mpw_deck.specs.declared.line.TwoLayers.TheVariants as two
use Rattle.mpw_text.specs.Text.{lines_of, words_of, number_of}

infixl 10 ◌>>=◌
abbrev pub ◌>>=◌ : {A B E : Type 0} → Result A E → (A → Result B E) → Result B E
(Ok x) >>= f = f x
(Err e) >>= f = Err e

-- a rule's name: 1 to 255 visible bytes, none a colon
abbrev pub is_rule_name : List ℕ → Bool
is_rule_name word = (nat_le 1 (length word) && nat_le (length word) 255)
    && list_all (λ b. (nat_le 0x21 b && nat_le b 0x7E) && not (b == 58)) word

unfoldable pub rule_name : List ℕ → Result (List ℕ) DeckKind
rule_name word = if is_rule_name word then Ok word else Err kinds.Word

-- a layer: two numbers to 65535, separated by a slash
abbrev pub layer_from : List (List ℕ) → Option Layer
layer_from (layer ∷ datatype ∷ []) = numbered (number_of 0 65535 layer) (number_of 0 65535 datatype)
  where
    numbered : Option ℕ → Option ℕ → Option Layer
    numbered (Some l) (Some d) = Some (record { layer = l; datatype = d })
    numbered (Some l) None = None
    numbered None d = None
layer_from _ = None

unfoldable pub layer_of : List ℕ → Result Layer DeckKind
layer_of word = ok_or (layer_from (slice_split (λ b. b == 47) word)) kinds.Layer

-- a distance in nm
unfoldable pub distance_of : List ℕ → Result ℕ DeckKind
distance_of word = ok_or (number_of 1 65535 word) kinds.Number

-- a rule of one layer: name, layer, distance
unfoldable pub one_layer : (Layer → Check) → List ℕ → List ℕ → List ℕ → Result Rule DeckKind
one_layer check name layer distance = do
  n ← rule_name name
  l ← layer_of layer
  d ← distance_of distance
  Ok (record { name = n; check = check l; distance = d })

-- a rule of two layers, which differ
unfoldable pub two_layers : (Layer → Layer → Check) → List ℕ → List ℕ → List ℕ → List ℕ
    → Result Rule DeckKind
two_layers check name first second distance = do
  n ← rule_name name
  a ← layer_of first
  b ← layer_of second
  d ← distance_of distance
  if same_layer a b then Err kinds.SameLayer
      else Ok (record { name = n; check = check a b; distance = d })

-- the key of a rule of one layer
abbrev pub one_layer_key : List ℕ → Option OneLayer
one_layer_key word = if name_eq word (codes "width") then Some one.Width
    else (if name_eq word (codes "space") then Some one.Space else None)

abbrev pub one_check : OneLayer → Layer → Check
one_check one.Width = checks.Width
one_check one.Space = checks.Space

-- the key of a rule of two layers
abbrev pub two_layer_key : List ℕ → Option TwoLayers
two_layer_key word = if name_eq word (codes "separation") then Some two.Separation
    else (if name_eq word (codes "enclosing") then Some two.Enclosing else None)

abbrev pub two_check : TwoLayers → Layer → Layer → Check
two_check two.Separation = checks.Separation
two_check two.Enclosing = checks.Enclosing

-- a rule's line, by its words
unfoldable pub rule_of : List (List ℕ) → Result Rule DeckKind
rule_of (key ∷ name ∷ layer ∷ distance ∷ []) = do
  k ← ok_or (one_layer_key key) kinds.Word
  one_layer (one_check k) name layer distance
rule_of (key ∷ name ∷ first ∷ second ∷ distance ∷ []) = do
  k ← ok_or (two_layer_key key) kinds.Word
  two_layers (two_check k) name first second distance
rule_of _ = Err kinds.Word

-- whether the line begins with the word `tile`
abbrev pub is_tile_line : List (List ℕ) → Bool
is_tile_line [] = false
is_tile_line (key ∷ words) = name_eq key (codes "tile")

-- whether a rule has the name
abbrev pub has_rule : List Rule → List ℕ → Bool
has_rule rules name = list_any (λ r. name_eq r.name name) rules

-- a line after the first, after these rules
unfoldable pub next_rule : List Rule → List ℕ → Result Rule DeckKind
next_rule rules line = if is_tile_line (words_of line) then Err kinds.Tile else (do
  rule ← rule_of (words_of line)
  if has_rule rules rule.name then Err kinds.DoubleRule
      else (if nat_le 256 (length rules) then Err kinds.Rules else Ok rule))

-- the lines from the n-th on, after these rules: all rules, or the first faulty line
abbrev pub rules_of : ℕ → List Rule → List (List ℕ) → Result (List Rule) DeckFault
rules_of n rules [] = Ok rules
rules_of n rules (line ∷ lines) =
    elim (next_rule rules line) [
      | Ok rule ↦ rules_of (n + 1) (rules ++ rule ∷ []) lines
      | Err kind
          ↦ Err (record { kind = kind; line = n })
    ]

-- the tile line: the side, 256 to 2^30 nm
unfoldable pub tile_of : List (List ℕ) → Result ℕ DeckKind
tile_of (key ∷ side ∷ []) = if name_eq key (codes "tile")
    then ok_or (number_of 256 (2 ^ 30) side) kinds.Number else Err kinds.Tile
tile_of words = if is_tile_line words then Err kinds.Word else Err kinds.Tile

-- a fault at the n-th line
abbrev pub at_line : {A : Type 0} → ℕ → Result A DeckKind → Result A DeckFault
at_line n (Ok x) = Ok x
at_line n (Err kind) = Err (record { kind = kind; line = n })

-- the deck that the text spells, or the first faulty line
unfoldable pub deck_of_lines : List (List ℕ) → Result Deck DeckFault
deck_of_lines [] = Err (record { kind = kinds.Tile; line = 1 })
deck_of_lines (first ∷ lines) = do
  side ← at_line 1 (tile_of (words_of first))
  rules ← rules_of 2 [] lines
  Ok (record { tile = side; rules = rules })

abbrev pub deck_of : List ℕ → Result Deck DeckFault
deck_of text = deck_of_lines (lines_of text)
