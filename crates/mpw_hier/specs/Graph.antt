-- Directed graphs: places that lead to others, by number, as structures do by their references.
use Rattle.std.specs.Prelude.{ℕ, ◌<◌, ◌≤◌, List, [], length, take, slice_index, slice_index_or, All, Contains}

-- The places to which a place leads.
abbrev pub targets : List (List ℕ) → ℕ → List ℕ
targets graph place = slice_index_or graph place []

-- A way leads from one place to another, or they are equal.
pub data Leads (graph : List (List ℕ)) : ℕ → ℕ → Type 0 where
  here : {place : ℕ} → Leads graph place place
  on : {from next to : ℕ} → Contains (targets graph from) next → Leads graph next to
      → Leads graph from to

-- The places that the top reaches, the top among them, each after all of its targets, and at most as many as the graph has.
pub record IsFromBelow (graph : List (List ℕ)) (top : ℕ) (order : List ℕ) : Type 0 where
  pub whole : Contains order top
  pub found : All (Leads graph top) order
  pub few : length order ≤ length graph
  pub below : (index target : ℕ) → index < length order
      → Contains (targets graph (slice_index order index)) target
      → Contains (take index order) target
