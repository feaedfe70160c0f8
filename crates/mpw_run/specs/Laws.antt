-- What holds of every run, and what finishes one.
use Rattle.std.specs.Prelude.{◌≡◌, ◌↔◌, Bool, true, false, List}
use Rattle.mpw_tiles.specs.Snapshots.{Snapshot}
use Rattle.mpw_markers.specs.declared.marker.Marker.{Marker}
use Rattle.mpw_markers.specs.Stitched.{IsStitched}
use Rattle.mpw_job.specs.Answers.{TileJob}
use Rattle.mpw_run.specs.declared.phase.RunReply.{RunReply}
use Rattle.mpw_run.specs.declared.phase.RunReply.TheVariants as reply
use Rattle.mpw_run.specs.Same.{same_snapshot, same_tile_job}
use Rattle.mpw_run.specs.Stitching.{stitched, AreFilled}

-- The tests of equality are exact: each is true exactly if its two values are equal.
pub record TestsAreExact : Type 0 where
  pub snapshots : (a b : Snapshot) → (same_snapshot a b ≡ true) ↔ (a ≡ b)
  pub tile_jobs : (a b : TileJob) → (same_tile_job a b ≡ true) ↔ (a ≡ b)

-- The computed book is the one that is stitched from the lists.
abbrev pub StitchedComputes : Type 0
StitchedComputes =
    (lists : List (List Marker)) → AreFilled lists → IsStitched lists (stitched lists)

-- ---- how a run goes on

-- The reply to the last tile's answer, which finishes the run.
abbrev pub finishes : RunReply → Bool
finishes (reply.Taken job) = false
finishes reply.NoJob = false
finishes reply.Kept = false
finishes reply.Finished = true
finishes reply.Stranger = false
finishes reply.Double = false
finishes reply.OldRun = false
