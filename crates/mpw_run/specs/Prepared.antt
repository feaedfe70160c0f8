-- The change of a run by an event, and what holds of it.
use Rattle.std.specs.Prelude.{◌≡◌, ◌<◌, ◌^◌, ⊤, ℕ, ◌+◌, List, Option, Some, None, slice_get, slice_set}
use Rattle.mpw_run.specs.declared.phase.Phase.{Phase}
use Rattle.mpw_run.specs.declared.phase.Phase.TheVariants.{Idle, Cutting, Checking, Finished}
use Rattle.mpw_run.specs.declared.prepare.Change.{Change}
use Rattle.mpw_run.specs.declared.prepare.Change.TheVariants as change
use Rattle.mpw_run.specs.declared.prepare.Prepared.{Prepared}
use Rattle.mpw_run.specs.Run.{Tile, Checks}
use Rattle.mpw_run.specs.Step.{Run, Outcome, IsRun, raised, answered_by, with_tiles}

-- A tile of the list is changed. If there is none, nothing is.
abbrev pub set_tile : (Tile → Tile) → ℕ → List Tile → Option Tile → List Tile
set_tile change number tiles None = tiles
set_tile change number tiles (Some tile) = slice_set tiles number (change tile)

-- A check with one of its tiles changed.
abbrev pub with_tile : (Tile → Tile) → ℕ → Checks → Checks
with_tile change number c = with_tiles c (set_tile change number c.tiles (slice_get c.tiles number))

-- The phase after a change. A change that doesn't fit a phase leaves it unchanged.
abbrev pub next_phase : Change → Phase → Phase
next_phase change.Nothing phase = phase
next_phase (change.Start planned) phase = Cutting planned
next_phase (change.Check windows tiles) Idle = Idle
next_phase (change.Check windows tiles) (Cutting planned) =
    Checking (record { planned = planned; windows = windows; tiles = tiles })
next_phase (change.Check windows tiles) (Checking c) = Checking c
next_phase (change.Check windows tiles) (Finished f) = Finished f
next_phase (change.Take number) Idle = Idle
next_phase (change.Take number) (Cutting planned) = Cutting planned
next_phase (change.Take number) (Checking c) = Checking (with_tile raised number c)
next_phase (change.Take number) (Finished f) = Finished f
next_phase (change.Keep number markers) Idle = Idle
next_phase (change.Keep number markers) (Cutting planned) = Cutting planned
next_phase (change.Keep number markers) (Checking c) =
    Checking (with_tile (answered_by markers) number c)
next_phase (change.Keep number markers) (Finished f) = Finished f
next_phase (change.Finish book) Idle = Idle
next_phase (change.Finish book) (Cutting planned) = Cutting planned
next_phase (change.Finish book) (Checking c) =
    Finished (record { planned = c.planned; book = book })
next_phase (change.Finish book) (Finished f) = Finished f

-- The number after a change: a new run has the next one.
abbrev pub next_number : Change → ℕ → ℕ
next_number change.Nothing number = number
next_number (change.Start planned) number = number + 1
next_number (change.Check windows tiles) number = number
next_number (change.Take tile) number = number
next_number (change.Keep tile markers) number = number
next_number (change.Finish book) number = number

-- The run after a change.
abbrev pub applied : Change → Run → Run
applied change run =
    record { number = next_number change run.number; phase = next_phase change run.phase }

-- One more hand-out of a tile can be counted.
abbrev pub MayCount : Tile → Type 0
MayCount tile = tile.taken + 1 < 2 ^ 64

abbrev pub MayTake : ℕ → Phase → Type 0
MayTake number Idle = ⊤
MayTake number (Cutting planned) = ⊤
MayTake number (Checking c) = (tile : Tile) → slice_get c.tiles number ≡ Some tile → MayCount tile
MayTake number (Finished f) = ⊤

-- A tile that the change counts as handed out can be counted.
abbrev pub IsCountable : Change → Phase → Type 0
IsCountable change.Nothing phase = ⊤
IsCountable (change.Start planned) phase = ⊤
IsCountable (change.Check windows tiles) phase = ⊤
IsCountable (change.Take number) phase = MayTake number phase
IsCountable (change.Keep number markers) phase = ⊤
IsCountable (change.Finish book) phase = ⊤

-- The change may be made to the run: the run after it is sound, and its number and its hand-outs can be
-- counted.
pub record IsFitting (change : Change) (run : Run) : Type 0 where
  pub left : IsRun (applied change run)
  pub number : next_number change run.number < 2 ^ 32
  pub taken : IsCountable change run.phase

-- What was prepared for the run has that outcome.
pub record IsPrepared (prepared : Prepared) (run : Run) (outcome : Outcome) : Type 0 where
  pub reply : prepared.reply ≡ outcome.reply
  pub leaves : applied prepared.change run ≡ outcome.run
  pub fits : IsFitting prepared.change run
