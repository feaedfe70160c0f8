-- Libraries whose unit is a part of a nanometre: the grid of their check, and why they aren't checked.
use Rattle.std.specs.Prelude.{◌≡◌, ◌⊎◌, ◌++◌, ◌*◌, ℕ, List, codes, map, Option, None, Some, is_some, unwrap_or, if◌then◌else◌}
use Rattle.std.specs.Fmt.{decimal}
use Rattle.mpw_firm_options.specs.declared.choices.Choices.{Choices}
use Rattle.mpw_firm_options.specs.declared.options.Options.{Options}
use Rattle.mpw_deck.specs.Decks.{Deck}
use Rattle.mpw_deck.specs.declared.rule.Rule.{Rule}
use Rattle.mpw_firm.specs.declared.grid.GridDeck.{GridDeck}
use Rattle.mpw_firm_grid.specs.Decks.{deck_on, first_beyond, rule_on}
use Rattle.mpw_firm_grid.specs.Texts.{grid_parts, on_grid}
use Rattle.mpw_firm_messages.specs.Told.{Refuses}
use Rattle.mpw_firm_messages.specs.declared.fault.FirmFault.{FirmFault}
use Rattle.mpw_firm_messages.specs.declared.fault.FirmFault.TheVariants.{Memory}

-- A grid is the number of parts of a nanometre that lengths count, if there are two or more.

-- ---- of a library

-- The first option that is given and that takes whole nanometres alone.
unfoldable pub whole_option : Options → Choices → Option (List ℕ)
whole_option options choices =
    if is_some options.report then Some (codes "--report")
    else if is_some options.picture then Some (codes "--picture")
    else if choices.faults then Some (codes "--faults")
    else if choices.faultless then Some (codes "--skip-faulty")
    else if choices.unreached then Some (codes "--skip-unreached")
    else None

-- If there is a grid, no such option is given.
abbrev pub IsAllowed : Option (List ℕ) → (grid : Option ℕ) → Type 0
IsAllowed option None = Unit {0}
IsAllowed option (Some parts) = option ≡ None

-- The grid is that of the text, and allowed.
pub record IsGridOf (option : Option (List ℕ)) (text : List ℕ) (grid : Option ℕ) : Type 0 where
  pub is : grid ≡ grid_parts text
  pub allowed : IsAllowed option grid

unfoldable pub part_text : (file : List ℕ) (parts : ℕ) (option : List ℕ) → List ℕ
part_text file parts option =
    file
    ++ (codes ": the unit is 1/"
    ++ (decimal parts
    ++ (codes " nm, and "
    ++ (option
    ++ (codes " takes whole nm: export with a unit of 1 nm, or check without " ++ option)))))

-- The text has a grid, and such an option is given.
abbrev pub IsOfBoth : (file : List ℕ) → Option ℕ → Option (List ℕ) → FirmFault → Type 0
IsOfBoth file None option fault = ⊥
IsOfBoth file (Some parts) None fault = ⊥
IsOfBoth file (Some parts) (Some option) fault = Refuses (part_text file parts option) fault

abbrev pub IsOfPart : (file : List ℕ) → Option (List ℕ) → (text : List ℕ) → FirmFault → Type 0
IsOfPart file option text fault = IsOfBoth file (grid_parts text) option fault

-- The text as it is read: on a grid its unit is 1 nm.
abbrev pub library_on : (grid : Option ℕ) → List ℕ → List ℕ
library_on None text = text
library_on (Some parts) text = on_grid text

-- ---- of a deck

abbrev pub rules_for : (grid : Option ℕ) → List Rule → List Rule
rules_for None rules = rules
rules_for (Some parts) rules = map (rule_on parts) rules

abbrev pub deck_for : (grid : Option ℕ) → Deck → Deck
deck_for None deck = deck
deck_for (Some parts) deck = deck_on parts deck

-- The deck on that grid, with the parts that its lengths count: without a grid it is one.
abbrev pub IsGridDeck : (grid : Option ℕ) → Deck → GridDeck → Type 0
IsGridDeck grid deck made = (made.deck ≡ deck_for grid deck) × (made.parts ≡ unwrap_or grid 1)

unfoldable pub beyond_text : (name : List ℕ) (distance many parts : ℕ) → List ℕ
beyond_text name distance many parts =
    codes "rule "
    ++ (name
    ++ (codes ": "
    ++ (decimal distance
    ++ (codes " nm are "
    ++ (decimal many
    ++ (codes " parts of 1/"
    ++ (decimal parts
    ++ codes " nm, and a rule has at most 65535: export with a unit of 1 nm")))))))

-- A rule's distance has more parts than a rule may have.
abbrev pub IsOfRule : (parts : ℕ) → Option Rule → FirmFault → Type 0
IsOfRule parts None fault = ⊥
IsOfRule parts (Some rule) fault =
    Refuses (beyond_text rule.name rule.distance (rule.distance * parts) parts) fault

-- The first such rule is named. Or it is out of memory.
abbrev pub IsOfDistance : (grid : Option ℕ) → Deck → FirmFault → Type 0
IsOfDistance None deck fault = ⊥
IsOfDistance (Some parts) deck fault =
    (fault ≡ Memory) ⊎ IsOfRule parts (first_beyond parts deck.rules) fault
