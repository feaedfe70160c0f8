-- A run of the desk: its number, what it checks, and how far it is.
use Rattle.std.specs.Prelude.{◌≡◌, ◌<◌, ℕ, List, length, Option, Some, slice_get}
use Rattle.std.specs.List.{flat_map}
use Rattle.std.specs.Option.{option_to_list}
use Rattle.mpw_tiles.specs.declared.listing.Rectangle.{Rectangle}
use Rattle.mpw_tiles.specs.Plan.{Tiling, tiles}
use Rattle.mpw_tiles.specs.Snapshots.{Snapshot, IsSnapshot, plan_for, StandFor}
use Rattle.mpw_markers.specs.declared.marker.Marker.{Marker}
use Rattle.mpw_job.specs.Answers.{Answers}
use Rattle.mpw_job.specs.Laws.{tile_job_of}

-- A snapshot with the plan of its tiles.
pub record Planned : Type 0 where
  pub snapshot : Snapshot
  pub plan : Tiling

-- A tile of a run: how often it was handed out, and its markers.
pub record Tile : Type 0 where
  pub taken : ℕ
  pub answer : Option (List Marker)

-- A run whose snapshot is cut: the windows, and the tiles in order.
pub record Checks : Type 0 where
  pub planned : Planned
  pub windows : List (List Rectangle)
  pub tiles : List Tile

-- What holds of a snapshot with its plan.
pub record IsPlanned (p : Planned) : Type 0 where
  pub snapshot : IsSnapshot p.snapshot
  pub plan : plan_for p.snapshot ≡ Some p.plan

-- The markers of each answered tile, in order, and how many tiles those are.
abbrev pub answers_of : List Tile → List (List Marker)
answers_of tiles = flat_map (λ (tile : Tile). option_to_list tile.answer) tiles

abbrev pub answered : List Tile → ℕ
answered tiles = length (answers_of tiles)

-- What holds of a run whose snapshot is cut: its windows represent the snapshot, there is a tile for each of
-- the plan's, each stored answer is that of its tile's job, and an unanswered tile is left.
pub record IsChecks (run : ℕ) (c : Checks) : Type 0 where
  pub windows : StandFor c.planned.snapshot c.windows
  pub count : length c.tiles ≡ tiles c.planned.plan
  pub kept : (number : ℕ) (tile : Tile) (markers : List Marker)
      → slice_get c.tiles number ≡ Some tile → tile.answer ≡ Some markers
      → Answers (tile_job_of c.planned.snapshot c.planned.plan c.windows run number) markers
  pub left : answered c.tiles < tiles c.planned.plan
