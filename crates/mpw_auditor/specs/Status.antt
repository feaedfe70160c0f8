-- The exit status of the program by how it ended.
use Rattle.std.specs.Prelude.{ℕ, Result, Ok, Err}
use Rattle.mpw_wire.specs.declared.fault.WireFault.{WireFault}
use Rattle.mpw_wire.specs.declared.fault.WireFault.TheVariants as wire
use Rattle.mpw_store_listing.specs.declared.fault.ListingFault.{ListingFault}
use Rattle.mpw_store_listing.specs.declared.fault.ListingFault.TheVariants as listing
use Rattle.mpw_store.specs.Status.{status_of_store}
use Rattle.mpw_store.specs.Status as file
use Rattle.mpw_auditor.specs.declared.fault.AuditFault.{AuditFault}
use Rattle.mpw_auditor.specs.declared.fault.AuditFault.TheVariants as audit

-- 2 for usage, 3 for the file, its rows and the output, 4 for a store that isn't sound, 5 for memory
abbrev pub status_of : AuditFault → ℕ
status_of (audit.Usage text) = 2
status_of (audit.File fault) = file.status_of fault
status_of (audit.Store fault) = status_of_store fault
status_of (audit.Unsound fault) = 4
status_of audit.Full = 4
status_of (audit.Log frames more) = 4
status_of (audit.NoPayload place) = 3
status_of audit.Output = 3
status_of audit.Memory = 5

-- 0 if the answer was printed
abbrev pub exit_of : Result (Unit {0}) AuditFault → ℕ
exit_of (Ok done) = 0
exit_of (Err fault) = status_of fault

-- a fault of the output, and one of a listing
abbrev pub of_wire : WireFault → AuditFault
of_wire wire.Read = audit.Output
of_wire wire.Write = audit.Output
of_wire wire.Memory = audit.Memory

abbrev pub of_listing : ListingFault → AuditFault
of_listing (listing.Store fault) = audit.Store fault
of_listing (listing.Output fault) = of_wire fault
