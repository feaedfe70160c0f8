-- The exit status of a service by how it ended.
use Rattle.std.specs.Prelude.{◌≡◌, ℕ, Bool, true, false, Result, Ok, Err}
use Rattle.mpw_stored_desk.specs.Status as stored
use Rattle.mpw_service.specs.Status.{status_of_serving}
use Rattle.mpw_service.specs.declared.fault.ServeFault.TheVariants as serving
use Rattle.mpw_log.specs.declared.logger.LogFault.{LogFault}
use Rattle.mpw_log.specs.declared.logger.LogFault.TheVariants as log
use Rattle.mpw_server.specs.declared.fault.ServiceFault.{ServiceFault}
use Rattle.mpw_server.specs.declared.fault.ServiceFault.TheVariants as service

-- 3 if a store or a device failed or the desk is full, 4 if the passes don't account for every call, 5 if memory runs out
abbrev pub status_of : ServiceFault → ℕ
status_of (service.Store fault) = stored.status_of fault
status_of service.Memory = 5
status_of service.Log = 3
status_of service.Bind = 3
status_of service.Print = 3
status_of (service.Serve fault) = status_of_serving fault
status_of service.Mismatch = 4
status_of service.Full = 3
status_of service.FullStore = 3

-- why a service doesn't begin whose log isn't written
abbrev pub fault_of_log : LogFault → ServiceFault
fault_of_log log.File = service.Log
fault_of_log log.Thread = service.Serve serving.Thread
fault_of_log log.Memory = service.Serve serving.Memory

-- 0 if the calls were printed
abbrev pub exit_of : Result (Unit {0}) ServiceFault → ℕ
exit_of (Ok done) = 0
exit_of (Err fault) = status_of fault

-- the status is that of some end
abbrev pub IsStatus : ℕ → Type 0
IsStatus status = (ended : Result (Unit {0}) ServiceFault) × (status ≡ exit_of ended)

-- an ongoing service goes on with the desk of the same store if the desk has answered all its calls, or no pass is left
abbrev pub goes_on : Bool → Result (Unit {0}) ServiceFault → Bool
goes_on false ended = false
goes_on true (Ok done) = true
goes_on true (Err (service.Store fault)) = false
goes_on true (Err service.Memory) = false
goes_on true (Err service.Log) = false
goes_on true (Err service.Bind) = false
goes_on true (Err service.Print) = false
goes_on true (Err (service.Serve serving.Accept)) = false
goes_on true (Err (service.Serve serving.Full)) = true
goes_on true (Err (service.Serve serving.Thread)) = false
goes_on true (Err (service.Serve serving.Memory)) = false
goes_on true (Err service.Mismatch) = false
goes_on true (Err service.Full) = false
goes_on true (Err service.FullStore) = false

-- without a store an ongoing service doesn't end well: its desk is lost
abbrev pub without_store : Bool → Result (Unit {0}) ServiceFault → Result (Unit {0}) ServiceFault
without_store true (Ok done) = Err service.Full
without_store false (Ok done) = Ok done
without_store ongoing (Err fault) = Err fault
