-- Answers to the goals of `is_same_tile_job` in `src/same.rt`.
use Rattle.std.proofs.lemmas.Bool.Decides.{same_from_decides}
use Rattle.mpw_run.specs.Same.{same_tile_job}
use Rattle.mpw_run.proofs.same.is_same_tile_job.Goals as goal

pub returns : goal.returns
returns c =
    same_from_decides c.is_same.result (same_tile_job c.args.a.now c.args.b.now) c.is_same.ensures
    (c.tests_are_exact.ensures.tile_jobs c.args.a.now c.args.b.now)
