-- Definitions for private functions and proofs: the events by which a run is executed.
use Rattle.std.specs.Prelude.{◌≡◌, false, Option, Some, IfSome}
use Rattle.mpw_events.specs.History.{KeptDesk, restarts}
use Rattle.mpw_events.specs.declared.event.Event.{Event}
use Rattle.mpw_events.specs.declared.event.Event.TheVariants as event
use Rattle.mpw_events.specs.declared.event.Response.{Response}
use Rattle.mpw_job.specs.declared.job.CutJob.{CutJob}
use Rattle.mpw_serve.specs.Working.{own_worker, CameOf, cut_of_call}

-- The event belongs to a run, and isn't a restart.
abbrev pub IsOfRun : Event → Type 0
IsOfRun e = restarts e ≡ false

-- The response to a call for a job, and the cutting job that is taken from it: none if it has no such job, or
-- if out of memory.
pub record CallsFor (d : KeptDesk) (job : Option CutJob) (d' : KeptDesk) : Type 0 where
  pub call : Option Response
  pub handled : CameOf d (event.Take own_worker) call d'
  pub taken : IfSome job (λ j. cut_of_call call ≡ Some j)
