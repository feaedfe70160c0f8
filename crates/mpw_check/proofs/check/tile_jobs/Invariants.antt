-- The invariants of the loops of `tile_jobs` in `src/check.rt`.
use Rattle.std.proofs.Common.{◌≡◌, ◌≤◌, ◌-◌}
use Rattle.std.specs.Prelude.{map}
use Rattle.std.specs.List.{range_with_len}
use Rattle.mpw_check.specs.Internal.Tiled.{job_at}
use Rattle.mpw_check.proofs.check.tile_jobs.Given as goal

-- the jobs are those of the tiles so far
abbrev pub invariant-loop-tile : goal.invariant-loop-tile
invariant-loop-tile l = (l.fn.first ≤ l.tile) × (l.jobs.items
    ≡ map (job_at l.fn.layout.snapshot.now l.fn.layout.plan.now l.fn.layout.windows.now)
    (range_with_len l.fn.first (l.tile - l.fn.first)))
