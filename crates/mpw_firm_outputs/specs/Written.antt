-- The outcome of writing by std's means.
use Rattle.std.specs.Prelude.{Result, Ok, Err, if◌then◌else◌}
use Rattle.std.specs.IoError.{error_kind}
use Rattle.std.specs.declared.io.Error.{Error}
use Rattle.mpw_firm_messages.specs.Status.{is_memory}
use Rattle.mpw_firm_outputs.specs.declared.texts.WriteFault.{WriteFault}
use Rattle.mpw_firm_outputs.specs.declared.texts.WriteFault.TheVariants as write

-- Out of memory stays that, and every other error is one of the sink.
abbrev pub fault_of : Error → WriteFault
fault_of error = if is_memory (error_kind error) then write.Memory else write.Device

abbrev pub outcome_of : Result Unit Error → Result Unit WriteFault
outcome_of (Ok done) = Ok done
outcome_of (Err error) = Err (fault_of error)
