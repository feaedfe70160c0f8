-- What a column finds, step by step; all is seen along the column's axis.
use Rattle.std.specs.Prelude.{◌≡◌, ◌+◌, ◌≤◌, ◌<◌, ◌^◌, ℕ, ℤ, pos, neg_ℤ, ◌≤ℤ◌, ◌<ℤ◌, List, length, All, Contains, ◌⊎◌, ◌↔◌}
use Rattle.mpw_geom.specs.declared.plane.Box2.{Box2}
use Rattle.mpw_geom.specs.declared.plane.Layer.{Layer}
use Rattle.mpw_deck.specs.declared.rule.Rule.{Rule}
use Rattle.mpw_edges.specs.declared.run.Axis.{Axis}
use Rattle.mpw_edges.specs.Laws.{AreSameIn}
use Rattle.mpw_edges.specs.Pieces.{piece_of}
use Rattle.mpw_region.specs.declared.runs.Run.{Run}
use Rattle.mpw_markers.specs.declared.marker.Key.{Key}
use Rattle.mpw_job.specs.Layers.{Coverage}
use Rattle.mpw_columns_keys.specs.declared.column.Column.{Column}
use Rattle.mpw_columns.specs.Found.{IsFound, HasLayers}

-- Exactly the keys that are found were added to the keys; the second: those of the first n rules alone.
abbrev pub AddsFound : List Rule → Axis → Coverage → Box2 → (old new : List Key) → Type 0
AddsFound rules axis on core old new =
    (k : Key) → Contains new k ↔ (Contains old k ⊎ IsFound rules axis on core k)

abbrev pub AddsFirst : ℕ → List Rule → Axis → Coverage → Box2 → (old new : List Key) → Type 0
AddsFirst n rules axis on core old new = (k : Key)
    → Contains new k ↔ (Contains old k ⊎ ((k.rule < n) × IsFound rules axis on core k))

-- Exactly the keys that are found for the rule at an index were added.
abbrev pub AddsRule : ℕ → List Rule → Axis → Coverage → Box2 → (old new : List Key) → Type 0
AddsRule place rules axis on core old new = (k : Key)
    → Contains new k ↔ (Contains old k ⊎ ((k.rule ≡ place) × IsFound rules axis on core k))

-- The key of a run of the rule at that index.
abbrev pub key_of_run : ℕ → Axis → Run → Key
key_of_run place axis r = record { rule = place; piece = piece_of axis r }

-- The input of a search: at most 256 rules, with their layers, and a distance that is at least each of theirs.
pub record IsLook (rules : List Rule) (layers : List Layer) (distance : ℕ) : Type 0 where
  pub few : length rules ≤ 256
  pub near : All (λ rule. rule.distance ≤ distance) rules
  pub layered : All (λ rule. HasLayers layers rule.check) rules

-- On these layers the two have the same squares in the window.
abbrev pub AgreeIn : List Layer → Box2 → Coverage → Coverage → Type 0
AgreeIn layers window on other =
    (layer : Layer) → Contains layers layer → AreSameIn window (on layer) (other layer)

-- On all layers.
abbrev pub AgreeAll : Box2 → Coverage → Coverage → Type 0
AgreeAll window on other = (layer : Layer) → AreSameIn window (on layer) (other layer)

-- The core left and right of a position.
abbrev pub left_of : Box2 → ℤ → Box2
left_of core at = record { x0 = core.x0; y0 = core.y0; x1 = at; y1 = core.y1 }

abbrev pub right_of : Box2 → ℤ → Box2
right_of core at = record { x0 = at; y0 = core.y0; x1 = core.x1; y1 = core.y1 }

-- A core that is seen along its axis: its first position is at most the one after its last, and both are within bounds.
pub record IsUpright (core : Box2) : Type 0 where
  pub ordered : core.x0 ≤ℤ core.x1
  pub left : neg_ℤ (pos (2 ^ 40)) ≤ℤ core.x0
  pub right : core.x1 ≤ℤ pos (2 ^ 40)
  pub bottom : neg_ℤ (pos (2 ^ 40)) ≤ℤ core.y0
  pub top : core.y1 ≤ℤ pos (2 ^ 40)

-- A column with some position, within bounds.
pub record IsStretch (c : Column) : Type 0 where
  pub left : neg_ℤ (pos (2 ^ 40)) ≤ℤ c.from
  pub some : c.from <ℤ c.to
  pub right : c.to ≤ℤ pos (2 ^ 40)

-- The rows of the box, and its columns, are within bounds.
pub record IsTall (b : Box2) : Type 0 where
  pub bottom : neg_ℤ (pos (2 ^ 40)) ≤ℤ b.y0
  pub top : b.y1 ≤ℤ pos (2 ^ 40)

pub record IsWide (b : Box2) : Type 0 where
  pub left : neg_ℤ (pos (2 ^ 40)) ≤ℤ b.x0
  pub ordered : b.x0 ≤ℤ b.x1
  pub right : b.x1 <ℤ pos (2 ^ 40)

-- The two columns are the halves of the first.
pub record AreHalvesOf (c left right : Column) : Type 0 where
  pub left_axis : left.axis ≡ c.axis
  pub right_axis : right.axis ≡ c.axis
  pub from_is : left.from ≡ c.from
  pub at : left.to ≡ right.from
  pub to_is : right.to ≡ c.to
  pub some_left : left.from <ℤ left.to
  pub some_right : right.from <ℤ right.to

-- The number of columns (`now`) once a column was halved at most `depth` times, with `before` other columns before it. Halving ends at 2^20 columns.
pub record AreFew (depth before now : ℕ) : Type 0 where
  pub early : before < 2 ^ 20 → now ≤ 2 ^ 20 + depth
  pub late : 2 ^ 20 ≤ before → now ≤ before + 1
