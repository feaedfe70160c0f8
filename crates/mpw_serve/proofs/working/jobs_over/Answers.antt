-- Answers to the goals of `jobs_over` in `src/working.rt`.
use Rattle.std.proofs.Common.{◌∷◌, [], ◌++◌, map, ap, ◌∙◌, arith}
use Rattle.std.specs.List.{range_with_len}
use Rattle.std.proofs.lemmas.List.FromFn.{map-range_with_len_more}
use Rattle.mpw_job.specs.declared.job.Job.TheVariants as jobs
use Rattle.mpw_serve.specs.Working.{job_at}
use Rattle.mpw_serve.proofs.working.jobs_over.Goals as goal

pub loop-tile-preserved : goal.loop-tile-preserved
loop-tile-preserved c =
    let f = job_at c.args.snapshot.now c.args.plan.now c.args.windows.now c.args.run in
    let more = map-range_with_len_more f 0 c.loop-tile.tile c.loop-tile.tile (omega arith) in
    rw (c.in_ok-push.ensures.items, more)
    (ap (λ js. js ++ jobs.Tile c.in_ok-job.job ∷ []) c.loop-tile.invariant
    ∙ ap (λ j. map f (range_with_len 0 c.loop-tile.tile) ++ jobs.Tile j ∷ []) c.in_ok-job.ensures)
