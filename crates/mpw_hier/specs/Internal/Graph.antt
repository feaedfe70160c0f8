-- For private functions and proofs: facts about graphs.
use Rattle.std.specs.Prelude.{ℕ, ◌<◌, List, length, slice_index, Contains}
use Rattle.mpw_hier.specs.Graph.{targets, Leads}

-- Each place leads only to places of the graph.
abbrev pub IsGraph : List (List ℕ) → Type 0
IsGraph graph = (place index : ℕ) → place < length graph → index < length (targets graph place)
    → slice_index (targets graph place) index < length graph

-- A place that the top reaches, with a target that leads back to it.
pub record HasCycle (graph : List (List ℕ)) (top : ℕ) : Type 0 where
  pub place : ℕ
  pub next : ℕ
  pub found : Leads graph top place
  pub edge : Contains (targets graph place) next
  pub back : Leads graph next place
