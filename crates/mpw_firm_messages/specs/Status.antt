-- The exit status of a check.
use Rattle.std.specs.Prelude.{ℕ, Bool, true, false, Result, Ok, Err, nat_lt, if◌then◌else◌}
use Rattle.std.specs.declared.io.ErrorKind.{ErrorKind}
use Rattle.std.specs.declared.io.ErrorKind.TheVariants.{OutOfMemory, StorageFull, QuotaExceeded}
use Rattle.mpw_firm_messages.specs.declared.fault.FirmFault.{FirmFault}
use Rattle.mpw_firm_messages.specs.declared.fault.FirmFault.TheVariants.{Usage, Device, Refused, Memory}

-- 2 if the command line is wrong, 3 if a file or a device failed, 4 if the library or the deck has a fault, 5 if memory runs out
abbrev pub status_of : FirmFault → ℕ
status_of (Usage text) = 2
status_of (Device text) = 3
status_of (Refused text) = 4
status_of Memory = 5

-- 0 without markers and 1 with some; else the fault's
abbrev pub exit_of : Result ℕ FirmFault → ℕ
exit_of (Ok markers) = if nat_lt 0 markers then 1 else 0
exit_of (Err fault) = status_of fault

-- An error of the system's that means out of memory.
abbrev pub is_memory : ErrorKind → Bool
is_memory OutOfMemory = true
is_memory kind = false

-- One that means that no space is left, on the disk or in the user's quota.
abbrev pub is_full : ErrorKind → Bool
is_full StorageFull = true
is_full QuotaExceeded = true
is_full kind = false
