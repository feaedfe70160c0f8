-- How a file that can't be opened is reported, by what the command asks of it, and how a log is.
use Rattle.std.specs.Prelude.{Result, Ok, Err, if◌then◌else◌}
use Rattle.mpw_store.specs.declared.file_fault.FileFault.{FileFault}
use Rattle.mpw_auditor.specs.Answering.{unopened}
use Rattle.mpw_auditor.specs.declared.fault.AuditFault.{AuditFault}
use Rattle.mpw_auditor.specs.declared.fault.AuditFault.TheVariants as audit
use Rattle.mpw_auditor.specs.declared.settings.Asked.{Asked}
use Rattle.mpw_auditor.specs.declared.settings.Asked.TheVariants as asked
use Rattle.mpw_store_log.specs.declared.ending.LogEnd.{LogEnd}

-- as of a store that isn't sound if it is checked, else as one that can't be read
abbrev pub unread : Asked → FileFault → AuditFault
unread (asked.Check file) fault = unopened fault
unread (asked.Rows file) fault = audit.File fault
unread (asked.Payload file place) fault = audit.File fault
unread (asked.Help text) fault = audit.File fault

-- a log without its mark is reported, with the frames that are taken and those that follow
abbrev pub whole : LogEnd → Result (Unit {0}) AuditFault
whole end = if end.is_whole then Ok tt else Err (audit.Log end.frames end.more)
