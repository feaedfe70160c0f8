-- Answers to the goals of `all_done` in `src/working.rt`.
use Rattle.std.proofs.Common.{rules}
use Rattle.mpw_job.specs.Carried.{job_of}
use Rattle.mpw_serve.proofs.BatchLemmas.{front_grows}
use Rattle.mpw_serve.proofs.working.all_done.Goals as goal

pub loop-from-preserved : goal.loop-from-preserved
loop-from-preserved g c = (
  rw (c.in_ok-append.ensures.items)
      (front_grows job_of _ _ _ _ _ (search rules) c.loop-from.invariant.0 c.in_ok-batch.ensures),
  search rules,
)
