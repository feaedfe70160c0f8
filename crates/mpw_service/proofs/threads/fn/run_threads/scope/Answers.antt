-- a reference to the hall may go to another thread, since all that it leads to may be shared
use denote.Param.Send.{sendable}
use Rattle.mpw_service.proofs.hall.Hall.TheSendSync as hall
use Rattle.mpw_service.proofs.threads.fn.run_threads.scope.Goals as goal

pub spawn-requires-send-F : goal.spawn-requires-send-F
spawn-requires-send-F g c κs within = search (sendable, hall.the_sync) depth 12
