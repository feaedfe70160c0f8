-- The exit status of a service that stops serving early.
use Rattle.std.specs.Prelude.{ℕ}
use Rattle.mpw_service.specs.declared.fault.ServeFault.{ServeFault}
use Rattle.mpw_service.specs.declared.fault.ServeFault.TheVariants as serving

-- 3 if a connection can't be accepted or no pass is left, 5 if a thread can't be started or memory runs out
abbrev pub status_of_serving : ServeFault → ℕ
status_of_serving serving.Accept = 3
status_of_serving serving.Full = 3
status_of_serving serving.Thread = 5
status_of_serving serving.Memory = 5
