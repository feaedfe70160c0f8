-- The tiles of a run: a grid over the layout's extent, with the deck's side, and windows as wide as its greatest distance requires.
use Rattle.std.specs.Prelude.{◌≤◌, ◌^◌, ℕ, ◌+◌, max, List, fold}
use Rattle.mpw_geom.specs.declared.plane.Box2.{Box2}
use Rattle.mpw_deck.specs.declared.rule.Rule.{Rule}
use Rattle.mpw_deck.specs.Decks.{Deck}
use Rattle.mpw_tiles.specs.Grid.{Cells, cells, core_of, window_of}

-- A plan, by its grid and the margin of its windows, in nm.
pub record Tiling : Type 0 where
  pub grid : Cells
  pub margin : ℕ

-- The greatest distance of the rules; 0 without rules.
abbrev pub greatest_distance : List Rule → ℕ
greatest_distance rules = fold (λ greatest (rule : Rule). max greatest rule.distance) 0 rules

-- The grid starts at the extent's lower left corner. Windows are wider than cores by the greatest distance plus 1.
abbrev pub plan_of : Box2 → Deck → Tiling
plan_of extent deck = record {
  grid = record { extent = extent; side = deck.tile };
  margin = greatest_distance deck.rules + 1;
}

abbrev pub tiles : Tiling → ℕ
tiles plan = cells plan.grid

abbrev pub tile_core : Tiling → ℕ → Box2
tile_core plan tile = core_of plan.grid tile

abbrev pub tile_window : Tiling → ℕ → Box2
tile_window plan tile = window_of plan.grid plan.margin tile

-- The properties of a plan.
pub record IsPlan (plan : Tiling) : Type 0 where
  pub few : tiles plan ≤ 4096
  pub short : plan.margin ≤ 2 ^ 32
