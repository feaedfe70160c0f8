-- Answers to the goals of `tile_jobs` in `src/check.rt`.
use Rattle.std.proofs.Common.{◌≡◌, ◌+◌, ◌-◌, ◌∷◌, [], ◌++◌, map, ap, ◌∙◌, arith}
use Rattle.std.specs.List.{range_with_len}
use Rattle.std.proofs.lemmas.List.FromFn.{map-range_with_len_more}
use Rattle.mpw_job.specs.declared.job.Job.TheVariants as jobs
use Rattle.mpw_check.specs.Internal.Tiled.{job_at}
use Rattle.mpw_check.proofs.check.tile_jobs.Goals as goal

pub loop-tile-preserved : goal.loop-tile-preserved
loop-tile-preserved c =
    let layout = c.args.layout.now in
    let f = job_at layout.snapshot.now layout.plan.now layout.windows.now in
    let first = c.args.first in
    let tile = c.loop-tile.tile in
    let reached = c.loop-tile.invariant.0 in
    let longer : tile + 1 - first ≡ (tile - first) + 1 = omega (arith, reached) in
    let more = map-range_with_len_more f first (tile - first) tile (omega (arith, reached)) in (
      omega (arith, reached),
      rw (c.in_ok-push.ensures.items, longer, more)
          (ap (λ js. js ++ jobs.Tile c.in_ok-job.job ∷ []) c.loop-tile.invariant.1
          ∙ ap (λ j. map f (range_with_len first (tile - first)) ++ jobs.Tile j ∷ [])
          c.in_ok-job.ensures),
    )
