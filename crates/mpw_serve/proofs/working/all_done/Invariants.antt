-- The invariants of the loops of `all_done` in `src/working.rt`.
use Rattle.std.proofs.Common.{◌≡◌, ◌-◌, ◌≤◌, map, take, length}
use Rattle.mpw_job.specs.Carried.{job_of}
use Rattle.mpw_serve.proofs.working.all_done.Given as goal

abbrev pub invariant-loop-from : goal.invariant-loop-from
invariant-loop-from g l =
    (map job_of l.done.items ≡ take l.from l.fn.jobs) × (l.from ≤ length l.fn.jobs)

abbrev pub decreases-loop-from : goal.decreases-loop-from
decreases-loop-from g l = length l.fn.jobs - l.from
