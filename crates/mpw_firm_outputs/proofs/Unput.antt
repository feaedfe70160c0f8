-- What is printed about a place that doesn't take a text is of that place.
use Rattle.std.proofs.Common.{ℕ, Bool, true, List, [], Option, None, Some}
use Rattle.mpw_firm_messages.specs.Told.{reason_text}
use Rattle.mpw_firm_messages.specs.declared.fault.FirmFault.{FirmFault}
use Rattle.mpw_firm_messages.specs.declared.fault.FirmFault.TheVariants.{Memory}
use Rattle.mpw_firm_outputs.specs.Outputs.{IsUnput, IsUntaken}

pub untaken_is_unput : (place : Option (List ℕ)) (full : Bool) (fault : FirmFault)
    → IsUntaken place full fault → IsUnput place fault
untaken_is_unput None full fault h = (full, h)
untaken_is_unput (Some file) full fault h = (reason_text full, h)

pub memory_is_unput : (place : Option (List ℕ)) → IsUnput place Memory
memory_is_unput None = (true, tt)
memory_is_unput (Some file) = ([], tt)
