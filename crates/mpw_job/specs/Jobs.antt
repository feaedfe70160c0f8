-- Jobs, and the answers that have them.
use Rattle.std.specs.Prelude.{List}
use Rattle.mpw_tiles.specs.declared.listing.Rectangle.{Rectangle}
use Rattle.mpw_tiles.specs.Snapshots.{StandFor}
use Rattle.mpw_markers.specs.declared.marker.Marker.{Marker}
use Rattle.mpw_job.specs.declared.job.CutJob.{CutJob}
use Rattle.mpw_job.specs.Answers.{TileJob, Answers}

-- The windows of a cut, with the job for which they were cut.
pub record CutWindows : Type 0 where
  pub job : CutJob
  pub windows : List (List Rectangle)

-- The markers of a tile, with the job that they answer.
pub record FoundMarkers : Type 0 where
  pub job : TileJob
  pub markers : List Marker

-- The windows represent the job's snapshot.
abbrev pub IsCutAnswer : CutWindows → Type 0
IsCutAnswer a = StandFor a.job.snapshot a.windows

-- The markers answer the job.
abbrev pub IsTileAnswer : FoundMarkers → Type 0
IsTileAnswer a = Answers a.job a.markers
