-- What follows from a run's events.
use Rattle.std.specs.Prelude.{[], ◌≡◌, ◌↔◌, ◌<◌, ◌≤◌, ◌==◌, ◌&&◌, ◌||◌, ◌⊎◌, ℕ, Bool, true, false, List, ◌∷◌, map, Option, Some, None, slice_get}
use Rattle.mpw_tiles.specs.Plan.{tiles}
use Rattle.mpw_job.specs.Jobs.{CutWindows, FoundMarkers, IsCutAnswer, IsTileAnswer}
use Rattle.mpw_run.specs.declared.phase.Phase.{Phase}
use Rattle.mpw_run.specs.declared.phase.Phase.TheVariants.{Idle, Cutting, Checking, Finished}
use Rattle.mpw_run.specs.declared.phase.RunReply.{RunReply}
use Rattle.mpw_run.specs.declared.phase.RunReply.TheVariants as reply
use Rattle.mpw_run.specs.Run.{Planned, Tile, IsPlanned}
use Rattle.mpw_run.specs.Step.{Run, Offer, Outcome, IsRun, new_run, started, cancelled, next_from, with_tiles, taken, cut_answered, tile_answered}
use Rattle.mpw_run.specs.Laws.{finishes}

-- ---- events

-- An event of a run.
pub data Event : Type 0 where
  start : Planned → Event
  cancel : Event
  take : Event
  cut : CutWindows → Event
  tile : FoundMarkers → Event

-- The reply to an event, and the run after it.
abbrev pub step : Run → Event → Outcome
step run (Event.start planned) = record { reply = reply.Kept; run = started run planned }
step run Event.cancel = record { reply = reply.Kept; run = cancelled run }
step run Event.take = taken run
step run (Event.cut answer) = cut_answered run answer
step run (Event.tile answer) = tile_answered run answer

-- What holds of an event by its type: plans are those of their snapshots, and answers are right.
abbrev pub IsRight : Event → Type 0
IsRight (Event.start planned) = IsPlanned planned
IsRight Event.cancel = Unit {0}
IsRight Event.take = Unit {0}
IsRight (Event.cut answer) = IsCutAnswer answer
IsRight (Event.tile answer) = IsTileAnswer answer

abbrev pub AreRight : List Event → Type 0
AreRight [] = Unit {0}
AreRight (event ∷ before) = IsRight event × AreRight before

-- The run after events. The list begins with the last event.
abbrev pub run_after : List Event → Run
run_after [] = new_run
run_after (event ∷ before) = (step (run_after before) event).run

-- Every run is sound after any events.
abbrev pub EachRunKeeps : Type 0
EachRunKeeps = (events : List Event) → AreRight events → IsRun (run_after events)

-- ---- whose answers were accepted

-- The answer was accepted: the reply is `Kept`, or `Finished` for the last one.
abbrev pub is_kept : RunReply → Bool
is_kept (reply.Taken job) = false
is_kept reply.NoJob = false
is_kept reply.Kept = true
is_kept reply.Finished = true
is_kept reply.Stranger = false
is_kept reply.Double = false
is_kept reply.OldRun = false

-- What the current run checks: the plan of the last start, if no cancel followed it.
abbrev pub looked_at : List Event → Option Planned
looked_at [] = None
looked_at (Event.start planned ∷ before) = Some planned
looked_at (Event.cancel ∷ before) = None
looked_at (Event.take ∷ before) = looked_at before
looked_at (Event.cut answer ∷ before) = looked_at before
looked_at (Event.tile answer ∷ before) = looked_at before

-- Since the run began, an answer of the tile was accepted.
abbrev pub was_kept : List Event → ℕ → Bool
was_kept [] number = false
was_kept (Event.start planned ∷ before) number = false
was_kept (Event.cancel ∷ before) number = false
was_kept (Event.take ∷ before) number = was_kept before number
was_kept (Event.cut answer ∷ before) number = was_kept before number
was_kept (Event.tile answer ∷ before) number =
    ((answer.job.tile == number) && is_kept (tile_answered (run_after before) answer).reply)
    || was_kept before number

abbrev pub is_finished : Phase → Bool
is_finished Idle = false
is_finished (Cutting planned) = false
is_finished (Checking c) = false
is_finished (Finished f) = true

-- A run is going on or finished, and for each of its tiles an answer was accepted.
pub record AllWereKept (events : List Event) : Type 0 where
  pub planned : Planned
  pub goes_on : looked_at events ≡ Some planned
  pub all : (number : ℕ) → number < tiles planned.plan → was_kept events number ≡ true

-- A run is finished exactly if an answer of each of its tiles was accepted.
abbrev pub FinishedOnceAllWereKept : Type 0
FinishedOnceAllWereKept =
    (events : List Event) → AreRight events
    → (is_finished (run_after events).phase ≡ true) ↔ AllWereKept events

-- ---- what leaves a run unchanged

-- The replies that leave a run unchanged.
abbrev pub leaves : RunReply → Bool
leaves (reply.Taken job) = false
leaves reply.NoJob = true
leaves reply.Kept = false
leaves reply.Finished = false
leaves reply.Stranger = true
leaves reply.Double = true
leaves reply.OldRun = true

-- A result that is not accepted leaves the run unchanged. So does a call that gets no job.
abbrev pub UnkeptLeavesTheRun : Type 0
UnkeptLeavesTheRun =
    (run : Run) (event : Event) → leaves (step run event).reply ≡ true → (step run event).run ≡ run

-- A run is unchanged, or it goes on and is not finished, neither before nor after.
pub data GoesOn (run : Run) (o : Outcome) : Type 0 where
  stays : o.run ≡ run → finishes o.reply ≡ false → GoesOn run o
  moves : o.run.number ≡ run.number → is_finished run.phase ≡ false
      → is_finished o.run.phase ≡ false → leaves o.reply ≡ false → finishes o.reply ≡ false
      → GoesOn run o

-- A run that was not finished is finished now.
pub record IsFinishedNow (run : Run) (o : Outcome) : Type 0 where
  pub number : o.run.number ≡ run.number
  pub before : is_finished run.phase ≡ false
  pub behind : is_finished o.run.phase ≡ true
  pub told : o.reply ≡ reply.Finished

-- A run goes on after a call for a job and after the windows of a cut. After the markers of a tile it goes on
-- or is finished.
pub record RunsGoOnOrAreFinished : Type 0 where
  pub take : (run : Run) → GoesOn run (taken run)
  pub cut : (run : Run) (answer : CutWindows) → GoesOn run (cut_answered run answer)
  pub tile : (run : Run) (answer : FoundMarkers)
      → GoesOn run (tile_answered run answer) ⊎ IsFinishedNow run (tile_answered run answer)

-- ---- what a call for a job changes

-- A tile without the number of times that it was handed out.
abbrev pub uncounted : Tile → Tile
uncounted x = record { taken = 0; answer = x.answer }

abbrev pub without_counts : Phase → Phase
without_counts Idle = Idle
without_counts (Cutting planned) = Cutting planned
without_counts (Checking c) = Checking (with_tiles c (map uncounted c.tiles))
without_counts (Finished f) = Finished f

-- A call for a job changes nothing but how often a tile was handed out.
pub record TakingCountsAlone (run : Run) : Type 0 where
  pub number : (taken run).run.number ≡ run.number
  pub phase : without_counts (taken run).run.phase ≡ without_counts run.phase

-- No unanswered tile was handed out fewer times, and each before it was handed out more often.
pub record IsNext (tiles : List Tile) (number : ℕ) (x : Tile) : Type 0 where
  pub at : slice_get tiles number ≡ Some x
  pub unanswered : x.answer ≡ None
  pub fewest : (k : ℕ) (other : Tile) → slice_get tiles k ≡ Some other → other.answer ≡ None
      → x.taken ≤ other.taken
  pub least : (k : ℕ) (other : Tile) → slice_get tiles k ≡ Some other → other.answer ≡ None
      → k < number → x.taken < other.taken

-- The tile that is handed out next is that one, and there is none if each tile is answered.
pub record NextIsFewest : Type 0 where
  pub some : (tiles : List Tile) (o : Offer) → next_from 0 tiles ≡ Some o
      → IsNext tiles o.number o.tile
  pub none : (tiles : List Tile) (k : ℕ) (x : Tile) → next_from 0 tiles ≡ None
      → slice_get tiles k ≡ Some x → x.answer ≡ None → ⊥
