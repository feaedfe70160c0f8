-- A deck on a grid of so many parts of a nanometre: its lengths count parts.
use Rattle.std.specs.Prelude.{◌≡◌, ℕ, ◌*◌, ◌^◌, nat_lt, min, Bool, false, List, map, Option}
use Rattle.std.specs.List.{find, list_any}
use Rattle.mpw_deck.specs.Decks.{Deck}
use Rattle.mpw_deck.specs.declared.rule.Rule.{Rule}

-- A rule whose distance counts parts.
abbrev pub rule_on : (parts : ℕ) → Rule → Rule
rule_on parts rule =
    record { name = rule.name; check = rule.check; distance = rule.distance * parts }

-- The distance has more parts than that of a rule may have.
abbrev pub is_beyond : (parts : ℕ) → Rule → Bool
is_beyond parts rule = nat_lt 65535 (rule.distance * parts)

abbrev pub first_beyond : (parts : ℕ) → List Rule → Option Rule
first_beyond parts rules = find (is_beyond parts) rules

-- No distance has too many.
abbrev pub Fit : (parts : ℕ) → List Rule → Type 0
Fit parts rules = list_any (is_beyond parts) rules ≡ false

-- The side of tiles has at most 2^30 parts.
abbrev pub side_on : (parts side : ℕ) → ℕ
side_on parts side = min (side * parts) (2 ^ 30)

-- A deck whose lengths count parts.
abbrev pub deck_on : (parts : ℕ) → Deck → Deck
deck_on parts deck =
    record { tile = side_on parts deck.tile; rules = map (rule_on parts) deck.rules }
