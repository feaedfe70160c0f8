-- How a script over a store ends, and its exit status.
use Rattle.std.specs.Prelude.{◌==◌, ℕ, Option, None, Some, Result, Ok, Err, if◌then◌else◌}
use Rattle.mpw_serve.specs.declared.serve.End.{End}
use Rattle.mpw_store.specs.declared.fault.StoreFault.{StoreFault}
use Rattle.mpw_store.specs.declared.fault.StoreFault.TheVariants as store
use Rattle.mpw_store.specs.Status as file
use Rattle.mpw_store.specs.declared.file_fault.FileFault.TheVariants.{Store}
use Rattle.mpw_wire.specs.declared.fault.WireFault.{WireFault}
use Rattle.mpw_wire.specs.declared.fault.WireFault.TheVariants as wire
use Rattle.mpw_stored_desk.specs.declared.fault.StoredFault.{StoredFault}
use Rattle.mpw_stored_desk.specs.declared.fault.StoredFault.TheVariants.{File, Stranger, Full, Wire, Closed}

-- a row isn't accepted: the first one, or another
abbrev pub refused_row : ℕ → StoredFault
refused_row place = if place == 1 then Stranger else File (Store (store.Rows place))

-- why a store isn't reopened: a row isn't accepted, or another fault
abbrev pub refused_as : StoreFault → StoredFault
refused_as (store.Rows place) = refused_row place
refused_as (store.Sql error) = File (Store (store.Sql error))
refused_as store.Memory = File (Store store.Memory)
refused_as store.Other = File (Store store.Other)

-- 5 if memory ran out before the store was opened or for the connection, else 3, also if it ran out for a change
abbrev pub status_of : StoredFault → ℕ
status_of (File fault) = file.status_of fault
status_of Stranger = 3
status_of Full = 3
status_of (Wire wire.Read) = 3
status_of (Wire wire.Write) = 3
status_of (Wire wire.Memory) = 5
status_of (Closed fault) = 3

-- 0 if the connection ended
abbrev pub exit_of : Result End StoredFault → ℕ
exit_of (Ok end) = 0
exit_of (Err fault) = status_of fault

-- the outcome of serving, and why a change could not be stored, which is reported before a device's fault
abbrev pub end_told : Result End WireFault → Option StoreFault → Result End StoredFault
end_told ended (Some fault) = Err (Closed fault)
end_told (Ok end) None = Ok end
end_told (Err fault) None = Err (Wire fault)
