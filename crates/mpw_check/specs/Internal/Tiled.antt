-- For private functions and proofs: a layout that was cut, and the jobs of its tiles.
use Rattle.std.specs.Prelude.{◌≡◌, ℕ, ◌-◌, List, [], map, length, Some}
use Rattle.std.specs.List.{range_with_len}
use Rattle.mpw_job.specs.Answers.{Answers}
use Rattle.mpw_job.specs.Laws.{tile_job_of}
use Rattle.mpw_job.specs.declared.answer.Answer.{Answer}
use Rattle.mpw_job.specs.declared.answer.Answer.TheVariants as answers
use Rattle.mpw_job.specs.declared.job.Job.{Job}
use Rattle.mpw_job.specs.declared.job.Job.TheVariants as jobs
use Rattle.mpw_markers.specs.declared.marker.Marker.{Marker}
use Rattle.mpw_tiles.specs.declared.listing.Rectangle.{Rectangle}
use Rattle.mpw_tiles.specs.Placed.{WindowsLieInPlane}
use Rattle.mpw_tiles.specs.Plan.{Tiling, tiles}
use Rattle.mpw_tiles.specs.Snapshots.{Snapshot, plan_for, StandFor}
use Rattle.mpw_check.specs.Lists.{only_run}

-- The plan is the snapshot's, and the windows are those of a cut for it.
pub record IsCut (snapshot : Snapshot) (plan : Tiling) (windows : List (List Rectangle)) :
    Type 0 where
  pub planned : plan_for snapshot ≡ Some plan
  pub plane : WindowsLieInPlane plan
  pub count : length windows ≡ tiles plan
  pub stand : StandFor snapshot windows

-- The job of a tile, and those of the tiles from `first` to below `end`, in order.
abbrev pub job_at : Snapshot → Tiling → List (List Rectangle) → ℕ → Job
job_at snapshot plan windows tile = jobs.Tile (tile_job_of snapshot plan windows only_run tile)

abbrev pub jobs_of : Snapshot → Tiling → List (List Rectangle) → (first end : ℕ) → List Job
jobs_of snapshot plan windows first end =
    map (job_at snapshot plan windows) (range_with_len first (end - first))

-- The markers of an answer, which are those of its tile; a cut has none.
abbrev pub markers_in : Answer → List Marker
markers_in (answers.Cut a) = []
markers_in (answers.Tile a) = a.markers

abbrev pub IsAnswered : Answer → Type 0
IsAnswered (answers.Cut a) = Unit {0}
IsAnswered (answers.Tile a) = Answers a.job a.markers
