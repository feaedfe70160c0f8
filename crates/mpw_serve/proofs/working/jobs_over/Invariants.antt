-- The invariants of the loops of `jobs_over` in `src/working.rt`.
use Rattle.std.proofs.Common.{◌≡◌}
use Rattle.std.specs.Prelude.{map}
use Rattle.std.specs.List.{range_with_len}
use Rattle.mpw_serve.specs.Working.{job_at}
use Rattle.mpw_serve.proofs.working.jobs_over.Given as goal

abbrev pub invariant-loop-tile : goal.invariant-loop-tile
invariant-loop-tile l = l.jobs.items ≡ map (job_at l.fn.snapshot l.fn.plan l.fn.windows l.fn.run)
    (range_with_len 0 l.tile)
