-- Decks, and their limits. Lengths are in nm.
use Rattle.std.specs.Prelude.{◌≤◌, ◌^◌, ℕ, List, length, All}
use Rattle.mpw_deck.specs.declared.rule.Rule.{Rule}

-- A deck: the side of the tiles, and the rules in order.
pub record Deck : Type 0 where
  pub tile : ℕ
  pub rules : List Rule

-- A rule's distance is 1 to 65535.
pub record IsRule (rule : Rule) : Type 0 where
  pub least : 1 ≤ rule.distance
  pub most : rule.distance ≤ 65535

-- The side of the tiles is 256 to 2^30, and there are at most 256 rules.
pub record IsDeck (deck : Deck) : Type 0 where
  pub short : 256 ≤ deck.tile
  pub long : deck.tile ≤ 2 ^ 30
  pub few : length deck.rules ≤ 256
  pub rules : All IsRule deck.rules
