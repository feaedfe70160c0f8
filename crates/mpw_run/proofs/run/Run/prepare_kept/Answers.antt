-- Answers to the goals of `Run::prepare_kept` in `src/run.rt`.
use Rattle.std.proofs.Common.{sym, ap, ◌∙◌}
use Rattle.mpw_run.specs.Step.{Run, job_of_tile}
use Rattle.mpw_run.proofs.Exactness.{tile_jobs}
use Rattle.mpw_run.proofs.run.Run.prepare_kept.Goals as goal

pub tile_kept-requires-clause-job : goal.tile_kept-requires-clause-job
tile_kept-requires-clause-job c =
    sym c.job-2.ensures
    ∙ (tile_jobs c.job-2.result.now c.in_ok-own.own).0 (sym c.is_same_tile_job.ensures
    ∙ c.if-not-is_same_tile_job.false)
    ∙ c.in_ok-own.ensures
    ∙ ap (λ n. job_of_tile n c.args.c.now c.tile-number.result)
    (ap (λ (r : Run). r.number) c.self.view_is)
