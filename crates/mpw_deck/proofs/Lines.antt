-- Reading the lines of a deck's text, one after another.
use Rattle.std.proofs.Common.{◌≡◌, ℕ, ◌+◌, ◌<◌, ◌≤◌, List, [], ◌∷◌, ◌++◌, length, get_or, take, drop, suc, ◌-◌, map, refl, sym, ap, ◌∙◌, arith, Ok, Err, Result, ◌≢◌, Bor}
use Rattle.std.proofs.lemmas.List.{at_drop_more, take_all, get_or-map, length-map}
use Rattle.mpw_deck.specs.declared.deck.DeckKind.{DeckKind}
use Rattle.mpw_deck.specs.declared.deck.DeckFault.{DeckFault}
use Rattle.mpw_deck.specs.Decks.{Deck}
use Rattle.mpw_deck.specs.declared.rule.Rule.{Rule}
use Rattle.mpw_deck.specs.declared.deck.DeckKind.TheVariants.{Word, Number, Layer, SameLayer, DoubleRule, Tile, Rules, Memory}
use Rattle.mpw_deck.specs.Internal.Reads.{Refuses}
use Rattle.mpw_deck.specs.Reading.{next_rule, rules_of, tile_of, at_line, deck_of_lines, ◌>>=◌}
use Rattle.mpw_text.specs.Text.{words_of}

after : ℕ → List Rule → List (List ℕ) → Result Rule DeckKind → Result (List Rule) DeckFault
after n rules lines told = elim told [
  | Ok rule ↦ rules_of (n + 1) (rules ++ rule ∷ []) lines
  | Err kind ↦ Err (record { kind = kind; line = n })
]

pub rules_next : (rules : List Rule) (lines : List (List ℕ)) (i : ℕ) (line : List ℕ) (r : Rule)
    → i < length lines → get_or lines i [] ≡ line → next_rule rules line ≡ Ok r
    → rules_of (i + 1 + 2) (rules ++ r ∷ []) (drop (i + 1) lines) ≡ rules_of (i + 2) rules
    (drop i lines)
unfolding after
rules_next rules lines i line r l at told =
    let more = at_drop_more (rules_of (i + 2) rules) lines i [] l in
    let here = ap (after (i + 2) rules (drop (i + 1) lines)) (ap (next_rule rules) at ∙ told) in
    let n : i + 2 + 1 ≡ i + 1 + 2 = omega arith in
    sym (more ∙ here ∙ ap (λ (m : ℕ). rules_of m (rules ++ r ∷ []) (drop (i + 1) lines)) n)

pub rules_fault : (rules : List Rule) (lines : List (List ℕ)) (i : ℕ) (line : List ℕ)
    (kind : DeckKind) → i < length lines → get_or lines i [] ≡ line
    → next_rule rules line ≡ Err kind → rules_of (i + 2) rules (drop i lines)
    ≡ Err (record { kind = kind; line = i + 2 })
unfolding after
rules_fault rules lines i line kind l at told =
    at_drop_more (rules_of (i + 2) rules) lines i [] l
    ∙ ap (after (i + 2) rules (drop (i + 1) lines)) (ap (next_rule rules) at ∙ told)

-- a fault other than out of memory is the expected one
pub told_from_refuses : {A : Type 0} (kind : DeckKind) (told : Result A DeckKind)
    → Refuses kind told → kind ≢ Memory → told ≡ Err kind
told_from_refuses Word told h n = h
told_from_refuses Number told h n = h
told_from_refuses Layer told h n = h
told_from_refuses SameLayer told h n = h
told_from_refuses DoubleRule told h n = h
told_from_refuses Tile told h n = h
told_from_refuses Rules told h n = h
told_from_refuses Memory told h n = absurd (n refl)

-- the words of the line at index i
pub line_at : (lines : List (Bor (List ℕ))) (i : ℕ) (d : Bor (List ℕ)) → i < length lines
    → get_or (map (λ x. x.now) lines) i [] ≡ (get_or lines i d).now
line_at lines i d l = get_or-map (λ x. x.now) lines i d [] l

pub inside : (lines : List (Bor (List ℕ))) (i : ℕ) → i < length lines
    → i < length (map (λ x. x.now) lines)
inside lines i l = omega (arith, length-map lines (λ x. x.now))

-- the first line and the others, as a slice pattern gives them
pub first_and_rest : (lines : List (Bor (List ℕ))) (d : Bor (List ℕ)) → 1 ≤ length lines
    → map (λ x. x.now) lines ≡ (get_or lines 0 d).now
    ∷ map (λ x. x.now) (take (length lines - 1) (drop 1 lines))
first_and_rest [] d h = absurd (omega arith)
first_and_rest (x ∷ xs) d h = ap (λ (ys : List (Bor (List ℕ))). x.now ∷ map (λ y. y.now) ys)
    (sym (take_all (suc (length xs) - 1) xs (omega arith)))

pub deck_none : (lines : List (List ℕ)) → lines ≡ []
    → deck_of_lines lines ≡ Err (record { kind = Tile; line = 1 })
unfolding deck_of_lines
deck_none lines e = ap deck_of_lines e

pub deck_read : (lines : List (List ℕ)) (first : List ℕ) (rest : List (List ℕ)) (side : ℕ)
    (rules : List Rule) → lines ≡ first ∷ rest → tile_of (words_of first) ≡ Ok side
    → rules_of 2 [] rest ≡ Ok rules → deck_of_lines lines
    ≡ Ok (record { tile = side; rules = rules })
unfolding deck_of_lines
deck_read lines first rest side rules e f g =
    ap deck_of_lines e ∙ ap (λ t. at_line 1 t
    >>= (λ s. rules_of 2 [] rest >>= (λ r. Ok (record { tile = s; rules = r })))) f
    ∙ ap (λ t. t >>= (λ r. Ok (record { tile = side; rules = r }))) g

pub deck_side_fault : (lines : List (List ℕ)) (first : List ℕ) (rest : List (List ℕ))
    (fault : DeckFault) → lines ≡ first ∷ rest → (tile_of (words_of first) ≡ Err fault.kind)
    × (fault.line ≡ 1) → deck_of_lines lines ≡ Err fault
unfolding deck_of_lines
deck_side_fault lines first rest fault e f =
    ap deck_of_lines e ∙ ap (λ t. at_line 1 t
    >>= (λ s. rules_of 2 [] rest >>= (λ r. Ok (record { tile = s; rules = r })))) f.0
    ∙ ap (λ (n : ℕ). let found : DeckFault = record { kind = fault.kind; line = n } in
    let told : Result Deck DeckFault = Err found in told) (sym f.1)

pub deck_rules_fault : (lines : List (List ℕ)) (first : List ℕ) (rest : List (List ℕ)) (side : ℕ)
    (fault : DeckFault) → lines ≡ first ∷ rest → tile_of (words_of first) ≡ Ok side
    → rules_of 2 [] rest ≡ Err fault → deck_of_lines lines ≡ Err fault
unfolding deck_of_lines
deck_rules_fault lines first rest side fault e f g =
    ap deck_of_lines e ∙ ap (λ t. at_line 1 t
    >>= (λ s. rules_of 2 [] rest >>= (λ r. Ok (record { tile = s; rules = r })))) f
    ∙ ap (λ t. t >>= (λ r. Ok (record { tile = side; rules = r }))) g
