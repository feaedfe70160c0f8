-- The replies to the events of a run, and the state after each.
use Rattle.std.specs.Prelude.{◌≡◌, ◌≤◌, ◌==◌, ⊤, ℕ, ◌+◌, List, [], ◌∷◌, length, Option, Some, None, slice_get, slice_set, replicate, nat_le, nat_lt, if◌then◌else◌}
use Rattle.mpw_tiles.specs.Plan.{tiles}
use Rattle.mpw_markers.specs.declared.marker.Marker.{Marker}
use Rattle.mpw_job.specs.declared.job.CutJob.{CutJob}
use Rattle.mpw_job.specs.declared.job.Job.TheVariants as job
use Rattle.mpw_job.specs.Answers.{TileJob}
use Rattle.mpw_job.specs.Jobs.{CutWindows, FoundMarkers}
use Rattle.mpw_job.specs.Laws.{tile_job_of}
use Rattle.mpw_job.specs.Layout.{AreLayoutMarkers}
use Rattle.mpw_run.specs.declared.phase.Checked.{Checked}
use Rattle.mpw_run.specs.declared.phase.Phase.{Phase}
use Rattle.mpw_run.specs.declared.phase.Phase.TheVariants.{Idle, Cutting, Checking, Finished}
use Rattle.mpw_run.specs.declared.phase.RunReply.{RunReply}
use Rattle.mpw_run.specs.declared.phase.RunReply.TheVariants as reply
use Rattle.mpw_run.specs.Run.{Planned, Tile, Checks, answers_of, answered, IsPlanned, IsChecks}
use Rattle.mpw_run.specs.Same.{same_snapshot, same_tile_job}
use Rattle.mpw_run.specs.Stitching.{stitched}

-- A run: its number, which counts the accepted runs, and how far it is.
pub record Run : Type 0 where
  pub number : ℕ
  pub phase : Phase

-- A reply with the run after it.
pub record Outcome : Type 0 where
  pub reply : RunReply
  pub run : Run

-- The number of markers in the book of a run: 0 before it is finished.
abbrev pub book_size : Phase → ℕ
book_size Idle = 0
book_size (Cutting planned) = 0
book_size (Checking c) = 0
book_size (Finished f) = length f.book

-- What a finished run found.
abbrev pub findings : Phase → Option Checked
findings Idle = None
findings (Cutting planned) = None
findings (Checking c) = None
findings (Finished f) = Some f

abbrev pub new_run : Run
new_run = record { number = 0; phase = Idle }

-- A new run checks the snapshot. A cancelled run leaves its number.
abbrev pub started : Run → Planned → Run
started run planned = record { number = run.number + 1; phase = Cutting planned }

abbrev pub cancelled : Run → Run
cancelled run = record { number = run.number; phase = Idle }

-- A run in `Checking` goes back to `Cutting`, since what was handed out is lost. Any other is unchanged.
abbrev pub restarted_phase : Phase → Phase
restarted_phase Idle = Idle
restarted_phase (Cutting planned) = Cutting planned
restarted_phase (Checking c) = Cutting c.planned
restarted_phase (Finished f) = Finished f

abbrev pub restarted : Run → Run
restarted run = record { number = run.number; phase = restarted_phase run.phase }

-- The job of a tile of a run.
abbrev pub job_of_tile : ℕ → Checks → ℕ → TileJob
job_of_tile number c tile = tile_job_of c.planned.snapshot c.planned.plan c.windows number tile

-- A tile with its number.
pub record Offer : Type 0 where
  pub number : ℕ
  pub tile : Tile

-- Its number, and how often it was handed out.
abbrev pub handed_out : Offer → ℕ × ℕ
handed_out offer = (offer.number, offer.tile.taken)

-- An offer before others: it is taken unless one of those was handed out fewer times.
abbrev pub first_of : Offer → Option Offer → Option Offer
first_of offer None = Some offer
first_of offer (Some other) =
    Some (if nat_le offer.tile.taken other.tile.taken then offer else other)

-- An answered tile is not offered.
abbrev pub offered : Option (List Marker) → Offer → Option Offer → Option Offer
offered None offer others = first_of offer others
offered (Some markers) offer others = others

-- The unanswered tile that was handed out the fewest times, and of these the one with the least number. Tiles
-- are counted from a number on.
abbrev pub next_from : ℕ → List Tile → Option Offer
next_from number [] = None
next_from number (tile ∷ rest) =
    offered tile.answer (record { number = number; tile = tile }) (next_from (number + 1) rest)

-- The tile was handed out once more. The tile is answered.
abbrev pub raised : Tile → Tile
raised tile = record { taken = tile.taken + 1; answer = tile.answer }

abbrev pub answered_by : List Marker → Tile → Tile
answered_by markers tile = record { taken = tile.taken; answer = Some markers }

abbrev pub with_tiles : Checks → List Tile → Checks
with_tiles c tiles = record { planned = c.planned; windows = c.windows; tiles = tiles }

-- Tiles that weren't handed out and aren't answered.
abbrev pub new_tiles : ℕ → List Tile
new_tiles n = replicate n (record { taken = 0; answer = None })

-- A call for a job. A snapshot is cut first. Then the tiles are handed out, each again and again until it is
-- answered.
abbrev pub handed : Run → Checks → Option Offer → Outcome
handed run c None = record { reply = reply.NoJob; run = run }
handed run c (Some offer) = record {
  reply = reply.Taken (job.Tile (job_of_tile run.number c offer.number));
  run = record {
    number = run.number;
    phase = Checking (with_tiles c (slice_set c.tiles offer.number (raised offer.tile)));
  };
}

abbrev pub taken_in : Run → Phase → Outcome
taken_in run Idle = record { reply = reply.NoJob; run = run }
taken_in run (Cutting planned) = record {
  reply = reply.Taken (job.Cut (let j :
      CutJob = record { run = run.number; snapshot = planned.snapshot } in j));
  run = run;
}
taken_in run (Checking c) = handed run c (next_from 0 c.tiles)
taken_in run (Finished f) = record { reply = reply.NoJob; run = run }

abbrev pub taken : Run → Outcome
taken run = taken_in run run.phase

-- An answer that is not accepted leaves the run unchanged.
abbrev pub left_as : RunReply → Run → Outcome
left_as r run = record { reply = r; run = run }

-- The check of the run's tiles begins, with the windows of its snapshot.
abbrev pub begun : Run → Planned → CutWindows → Outcome
begun run planned answer = record {
  reply = reply.Kept;
  run = record {
    number = run.number;
    phase = Checking (record {
      planned = planned;
      windows = answer.windows;
      tiles = new_tiles (tiles planned.plan);
    });
  };
}

-- The windows of a snapshot.
abbrev pub cut_in : Run → CutWindows → Phase → Outcome
cut_in run answer Idle = left_as reply.OldRun run
cut_in run answer (Cutting planned) = if same_snapshot answer.job.snapshot planned.snapshot
    then begun run planned answer else left_as reply.Stranger run
cut_in run answer (Checking c) = left_as reply.Double run
cut_in run answer (Finished f) = left_as reply.Double run

abbrev pub cut_answered : Run → CutWindows → Outcome
cut_answered run answer =
    if run.number == answer.job.run then cut_in run answer run.phase else left_as reply.OldRun run

-- The run with the markers of a tile. The last one stitches its book.
abbrev pub kept : Run → Checks → List Tile → Outcome
kept run c now = if answered now == tiles c.planned.plan
    then record {
      reply = reply.Finished;
      run = record {
        number = run.number;
        phase = Finished (record { planned = c.planned; book = stitched (answers_of now) });
      };
    }
    else record {
      reply = reply.Kept;
      run = record {
        number = run.number;
        phase = Checking (with_tiles c now);
      };
    }

-- The markers of a tile of a run whose snapshot is cut.
abbrev pub tile_compared : Run → Checks → FoundMarkers → Tile → Option (List Marker) → Outcome
tile_compared run c answer tile (Some markers) = left_as reply.Double run
tile_compared run c answer tile None =
    if same_tile_job answer.job (job_of_tile run.number c answer.job.tile)
    then kept run c (slice_set c.tiles answer.job.tile (answered_by answer.markers tile))
    else left_as reply.Stranger run

abbrev pub tile_checked : Run → Checks → FoundMarkers → Option Tile → Outcome
tile_checked run c answer None = left_as reply.Stranger run
tile_checked run c answer (Some tile) = tile_compared run c answer tile tile.answer

-- The markers of a tile.
abbrev pub tile_in : Run → FoundMarkers → Phase → Outcome
tile_in run answer Idle = left_as reply.OldRun run
tile_in run answer (Cutting planned) = left_as reply.Stranger run
tile_in run answer (Checking c) = tile_checked run c answer (slice_get c.tiles answer.job.tile)
tile_in run answer (Finished f) = if nat_lt answer.job.tile (tiles f.planned.plan)
    then left_as reply.Double run else left_as reply.Stranger run

abbrev pub tile_answered : Run → FoundMarkers → Outcome
tile_answered run answer =
    if run.number == answer.job.run then tile_in run answer run.phase else left_as reply.OldRun run

-- What holds of a run, by its phase. The book of a finished run has exactly the markers of its snapshot's
-- flat layout.
abbrev pub IsPhase : ℕ → Phase → Type 0
IsPhase number Idle = ⊤
IsPhase number (Cutting planned) = IsPlanned planned
IsPhase number (Checking c) = IsPlanned c.planned × IsChecks number c
IsPhase number (Finished f) = IsPlanned f.planned × AreLayoutMarkers f.planned.snapshot f.book

abbrev pub IsRun : Run → Type 0
IsRun run = IsPhase run.number run.phase

-- Each tile of a phase was handed out at most that many times.
abbrev pub TakenAtMost : ℕ → Phase → Type 0
TakenAtMost most Idle = ⊤
TakenAtMost most (Cutting planned) = ⊤
TakenAtMost most (Checking c) =
    (number : ℕ) (tile : Tile) → slice_get c.tiles number ≡ Some tile → tile.taken ≤ most
TakenAtMost most (Finished f) = ⊤
