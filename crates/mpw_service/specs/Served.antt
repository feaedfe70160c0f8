-- What is known of a desk that comes back from a service.
use Rattle.std.specs.Prelude.{◌≡◌, ◌+◌, ℕ, List, length, Result, Ok}
use Rattle.mpw_events.specs.History.{KeptDesk}
use Rattle.mpw_desk.specs.Finished.{IsFinished}
use Rattle.mpw_desk.specs.Values.{PassView}
use Rattle.mpw_service.specs.declared.fault.ServeFault.{ServeFault}

-- its passes made all its calls since it was shared, and each has those of its connection. If the service ended well there is one for each
-- connection that was served and one for each worker
pub record IsServed (workers : ℕ) (begun left : KeptDesk) (ended : Result (Unit {0}) ServeFault) :
    Type 0 where
  pub passes : List PassView
  pub finished : IsFinished begun left passes
  pub served : ℕ
  pub whole : ended ≡ Ok tt → length passes ≡ served + workers
