-- Properties of each deck that a text spells, line by line.
use Rattle.std.proofs.Common.{◌≡◌, ◌≢◌, ℕ, ◌+◌, ◌<◌, Bool, true, false, ◌&&◌, List, [], ◌∷◌, ◌++◌, length, get_or, Option, Some, None, Ok, Err, Result, refl, sym, subst, arith, rules as common, true≢false}
use Rattle.std.specs.Prelude.{Contains, if◌then◌else◌, nat_le, not, ◌==◌}
use Rattle.std.specs.Option.{ok_or}
use Rattle.std.specs.List.{slice_split}
use Rattle.std.specs.Cmp.Lexicographic.{bytes_decides}
use Rattle.std.proofs.lemmas.List.Elements.{All-push, All-contains}
use Rattle.std.proofs.lemmas.List.Folds.{list_any_at}
use Rattle.std.proofs.lemmas.List.Quantifiers.{all_pairs_push}
use Rattle.std.proofs.lemmas.List.Sums.{AllPass-from_list_all}
use Rattle.mpw_geom.specs.declared.plane.Layer.{Layer}
use Rattle.mpw_geom.specs.Names.{name_eq}
use Rattle.mpw_text.specs.Text.{words_of, lines_of, number_of}
use Rattle.mpw_deck.specs.declared.deck.DeckFault.{DeckFault}
use Rattle.mpw_deck.specs.declared.deck.DeckKind.{DeckKind}
use Rattle.mpw_deck.specs.declared.deck.DeckKind.TheVariants as kinds
use Rattle.mpw_deck.specs.declared.rule.Rule.{Rule}
use Rattle.mpw_deck.specs.declared.rule.Check.{Check}
use Rattle.mpw_deck.specs.Decks.{Deck}
use Rattle.mpw_deck.specs.Named.{DifferByName, HasPlainName, AreNamed}
use Rattle.mpw_geom.specs.Layers.{same_layer}
use Rattle.mpw_deck.specs.Reading.{◌>>=◌, is_rule_name, rule_name, layer_from, layer_of, distance_of, one_layer, two_layers, one_layer_key, one_check, two_layer_key, two_check, rule_of, is_tile_line, has_rule, next_rule, rules_of, tile_of, at_line, deck_of_lines, deck_of}

-- ---- the result of a part of the reading: a value with a property, or a fault that isn't out of memory

abbrev pub Tells : {A : Type 0} → (A → Type 0) → Result A DeckKind → Type 0
Tells P (Ok x) = P x
Tells P (Err kind) = kind ≢ kinds.Memory

abbrev Anything : {A : Type 0} → A → Type 0
Anything x = Unit {0}

bind_tells : {A B : Type 0} (Q : A → Type 0) (P : B → Type 0) (r : Result A DeckKind)
    (f : A → Result B DeckKind) → Tells Q r → ((x : A) → Q x → Tells P (f x)) → Tells P (r >>= f)
bind_tells Q P (Ok x) f q h = h x q
bind_tells Q P (Err kind) f q h = q

if_tells : {A : Type 0} (P : A → Type 0) (t : Bool) (kind : DeckKind) (r : Result A DeckKind)
    → kind ≢ kinds.Memory → (t ≡ false → Tells P r) → Tells P (if t then Err kind else r)
if_tells P true kind r other h = other
if_tells P false kind r other h = h refl

or_tells : {A : Type 0} (o : Option A) (kind : DeckKind) → kind ≢ kinds.Memory
    → Tells Anything (ok_or o kind)
or_tells (Some x) kind other = tt
or_tells None kind other = other

-- ---- the words of a rule

abbrev IsNamed : Rule → Type 0
IsNamed rule = is_rule_name rule.name ≡ true

name_tells : (word : List ℕ) → Tells (λ name. is_rule_name name ≡ true) (rule_name word)
unfolding rule_name
name_tells word = go (is_rule_name word) refl
  where
    go : (t : Bool) → is_rule_name word ≡ t
        → Tells (λ (name : List ℕ). is_rule_name name ≡ true)
        (if t then Ok word else Err kinds.Word)
    go true is = is
    go false is = λ e. cc

layer_tells : (word : List ℕ) → Tells Anything (layer_of word)
unfolding layer_of
layer_tells word = or_tells (layer_from (slice_split _ word)) kinds.Layer (λ e. cc)

distance_tells : (word : List ℕ) → Tells Anything (distance_of word)
unfolding distance_of
distance_tells word = or_tells (number_of 1 65535 word) kinds.Number (λ e. cc)

one_tells : (check : Layer → Check) (name layer distance : List ℕ)
    → Tells IsNamed (one_layer check name layer distance)
unfolding one_layer
one_tells check name layer distance =
    bind_tells (λ n. is_rule_name n ≡ true) IsNamed (rule_name name) _ (name_tells name) (λ n is.
    bind_tells Anything IsNamed (layer_of layer) _ (layer_tells layer) (λ l _.
    bind_tells Anything IsNamed (distance_of distance) _ (distance_tells distance) (λ d _. is)))

two_tells : (check : Layer → Layer → Check) (name first second distance : List ℕ)
    → Tells IsNamed (two_layers check name first second distance)
unfolding two_layers
two_tells check name first second distance =
    bind_tells (λ n. is_rule_name n ≡ true) IsNamed (rule_name name) _ (name_tells name) (λ n is.
    bind_tells Anything IsNamed (layer_of first) _ (layer_tells first) (λ a _.
    bind_tells Anything IsNamed (layer_of second) _ (layer_tells second) (λ b _.
    bind_tells Anything IsNamed (distance_of distance) _ (distance_tells distance) (λ d _.
    if_tells IsNamed (same_layer a b) kinds.SameLayer _ (λ e. cc) (λ _. is)))))

words_tell : (words : List (List ℕ)) → Tells IsNamed (rule_of words)
unfolding rule_of
words_tell [] = λ e. cc
words_tell (a ∷ []) = λ e. cc
words_tell (a ∷ b ∷ []) = λ e. cc
words_tell (a ∷ b ∷ c ∷ []) = λ e. cc
words_tell (key ∷ name ∷ layer ∷ distance ∷ []) =
    bind_tells Anything IsNamed (ok_or (one_layer_key key) kinds.Word) _
    (or_tells (one_layer_key key) kinds.Word (λ e. cc))
    (λ k _. one_tells (one_check k) name layer distance)
words_tell (key ∷ name ∷ first ∷ second ∷ distance ∷ []) =
    bind_tells Anything IsNamed (ok_or (two_layer_key key) kinds.Word) _
    (or_tells (two_layer_key key) kinds.Word (λ e. cc))
    (λ k _. two_tells (two_check k) name first second distance)
words_tell (a ∷ b ∷ c ∷ d ∷ e ∷ f ∷ words) = λ e. cc

-- ---- a line after others

record IsNew (rules : List Rule) (rule : Rule) : Type 0 where
  named : is_rule_name rule.name ≡ true
  new : has_rule rules rule.name ≡ false

line_tells : (rules : List Rule) (line : List ℕ) → Tells (IsNew rules) (next_rule rules line)
unfolding next_rule
line_tells rules line =
    if_tells (IsNew rules) (is_tile_line (words_of line)) kinds.Tile _ (λ e. cc) (λ _.
    bind_tells IsNamed (IsNew rules) (rule_of (words_of line)) _ (words_tell (words_of line))
    (λ rule named.
    if_tells (IsNew rules) (has_rule rules rule.name) kinds.DoubleRule _ (λ e. cc) (λ new.
    if_tells (IsNew rules) (nat_le 256 (length rules)) kinds.Rules _ (λ e. cc)
    (λ _. record { named = named; new = new }))))

and_right : (a b : Bool) → (a && b) ≡ true → b ≡ true
and_right true b e = e
and_right false b e = absurd cc

abbrev is_plain : ℕ → Bool
is_plain b = (nat_le 0x21 b && nat_le b 0x7E) && not (b == 58)

plain_name : (word : List ℕ) → is_rule_name word ≡ true → Contains word 58 → ⊥
plain_name word named has =
    true≢false (sym (All-contains (λ b. is_plain b ≡ true) word 58
    (AllPass-from_list_all is_plain word (and_right _ _ named)) has))

other_name : (rules : List Rule) (name : List ℕ) (k : ℕ) (d : Rule) → has_rule rules name ≡ false
    → k < length rules → (get_or rules k d).name ≢ name
other_name rules name k d new within = λ same.
    let found : has_rule rules name ≡ true = list_any_at (λ r. name_eq r.name name) rules k d within
    ((bytes_decides (get_or rules k d).name name).1 same) in
    cc

one_more : (rules : List Rule) (rule : Rule) → AreNamed rules → IsNew rules rule
    → AreNamed (rules ++ rule ∷ [])
one_more rules rule named is = record {
  apart = all_pairs_push DifferByName rules rule named.apart
      (λ k d within. other_name rules rule.name k d is.new within);
  plain = All-push HasPlainName rules rule named.plain (plain_name rule.name is.named);
}

-- ---- all lines

abbrev pub TellsLine : {A : Type 0} → (A → Type 0) → Result A DeckFault → Type 0
TellsLine P (Ok x) = P x
TellsLine P (Err fault) = fault.kind ≢ kinds.Memory

rules_tell : (n : ℕ) (rules : List Rule) (lines : List (List ℕ)) → AreNamed rules
    → TellsLine AreNamed (rules_of n rules lines)
rules_tell n rules [] named = named
rules_tell n rules (line ∷ lines) named =
    go (next_rule rules line) (line_tells rules line)
    (λ rule more. rules_tell (n + 1) (rules ++ rule ∷ []) lines more)
  where
    go : (told : Result Rule DeckKind) → Tells (IsNew rules) told
        → ((rule : Rule) → AreNamed (rules ++ rule ∷ [])
        → TellsLine AreNamed (rules_of (n + 1) (rules ++ rule ∷ []) lines))
        → TellsLine AreNamed (elim told [
          | Ok rule ↦ rules_of (n + 1) (rules ++ rule ∷ []) lines
          | Err kind ↦ Err (record { kind = kind; line = n })
        ])
    go (Ok rule) is rest = rest rule (one_more rules rule named is)
    go (Err kind) is rest = is

tile_tells : (words : List (List ℕ)) → Tells Anything (tile_of words)
unfolding tile_of
tile_tells [] = λ e. cc
tile_tells (key ∷ []) = first_alone (is_tile_line (key ∷ []))
  where
    first_alone : (t : Bool) → Tells {A = ℕ} Anything (if t then Err kinds.Word else Err kinds.Tile)
    first_alone true = λ e. cc
    first_alone false = λ e. cc
tile_tells (key ∷ side ∷ []) = first_and_side (name_eq key _) (number_of 256 _ side)
  where
    first_and_side : (t : Bool) (n : Option ℕ)
        → Tells {A = ℕ} Anything (if t then ok_or n kinds.Number else Err kinds.Tile)
    first_and_side true n = or_tells n kinds.Number (λ e. cc)
    first_and_side false n = λ e. cc
tile_tells (key ∷ side ∷ word ∷ words) = first_of_many (is_tile_line (key ∷ side ∷ word ∷ words))
  where
    first_of_many : (t : Bool) → Tells {A = ℕ} Anything
        (if t then Err kinds.Word else Err kinds.Tile)
    first_of_many true = λ e. cc
    first_of_many false = λ e. cc

none_named : AreNamed []
none_named = record {
  apart = λ i j d lt within. absurd (omega arith);
  plain = search common;
}

deck_tells : (lines : List (List ℕ))
    → TellsLine (λ (deck : Deck). AreNamed deck.rules) (deck_of_lines lines)
unfolding deck_of_lines
deck_tells [] = λ e. cc
deck_tells (first ∷ lines) = go (tile_of (words_of first)) (tile_tells (words_of first))
    (rules_of 2 [] lines) (rules_tell 2 [] lines none_named)
  where
    go : (side : Result ℕ DeckKind) → Tells Anything side → (rules : Result (List Rule) DeckFault)
        → TellsLine AreNamed rules → TellsLine (λ (deck : Deck). AreNamed deck.rules)
        (at_line 1 side >>= (λ s. rules >>= (λ r. Ok (record { tile = s; rules = r }))))
    go (Ok side) is (Ok rules) named = named
    go (Ok side) is (Err fault) other = other
    go (Err kind) other rules named = other

-- ---- the laws

pub text_named : (text : List ℕ) (deck : Deck) → deck_of text ≡ Ok deck → AreNamed deck.rules
text_named text deck read =
    subst (TellsLine (λ (d : Deck). AreNamed d.rules)) read (deck_tells (lines_of text))

pub text_faulty : (text : List ℕ) (fault : DeckFault) → deck_of text ≡ Err fault
    → fault.kind ≢ kinds.Memory
text_faulty text fault read =
    subst (TellsLine (λ (d : Deck). AreNamed d.rules)) read (deck_tells (lines_of text))
