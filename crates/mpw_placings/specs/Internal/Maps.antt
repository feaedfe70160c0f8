-- A map of placements, as the list of them.
use Rattle.std.specs.Prelude.{ℕ, ◌≤◌, List, ◌++◌, AllPairs, Option, length, map}
use Rattle.std.specs.List.{find}
use Rattle.std.specs.Option.{option_map}
use Rattle.mpw_walk.specs.declared.root.Root.{Root}
use Rattle.mpw_placings.specs.declared.name.PlacementName.{PlacementName}
use Rattle.mpw_placings.specs.declared.placement.Placement.{Placement}
use Rattle.mpw_placings.specs.Placements.{is_at, DifferInName}

-- the placement of a name and a root
abbrev pub placement_of : PlacementName × Root → Placement
placement_of e = record { cell = e.0.cell; label = e.0.label; root = e.1 }

-- a map's entries, as placements in order
abbrev pub placements_of : List (PlacementName × Root) → List Placement
placements_of es = map placement_of es

-- the root of the placement under that cell and label, if there is one
abbrev pub root_at : List Placement → List ℕ → List ℕ → Option Root
root_at ps cell label = option_map (λ p. p.root) (find (is_at cell label) ps)

-- settled placements and the latest ones: at most 4096, and no two have the same cell and label
pub record IsTable (settled latest : List Placement) : Type 0 where
  pub apart : AllPairs DifferInName (settled ++ latest)
  pub few : length (settled ++ latest) ≤ 4096
