-- The faults of the hierarchy and of the sets of separation, as faults of the policy.
use Rattle.mpw_roles.specs.declared.fault.RolesFault.{RolesFault}
use Rattle.mpw_roles.specs.declared.fault.RolesFault.TheVariants as roles
use Rattle.mpw_separation.specs.declared.fault.SetsFault.{SetsFault}
use Rattle.mpw_separation.specs.declared.fault.SetsFault.TheVariants as sets
use Rattle.mpw_rbac.specs.declared.refusal.Refusal.TheVariants.{Unknown, Known, Loop, Full}
use Rattle.mpw_rbac.specs.declared.refusal.PolicyFault.{PolicyFault}
use Rattle.mpw_rbac.specs.declared.refusal.PolicyFault.TheVariants.{Refused, Memory}

abbrev pub fault_of_roles : RolesFault → PolicyFault
fault_of_roles roles.NoRole = Refused Unknown
fault_of_roles roles.Known = Refused Known
fault_of_roles roles.Cycle = Refused Loop
fault_of_roles roles.NoPair = Refused Unknown
fault_of_roles roles.Full = Refused Full
fault_of_roles roles.Memory = Memory

abbrev pub fault_of_sets : SetsFault → PolicyFault
fault_of_sets sets.Known = Refused Known
fault_of_sets sets.Unknown = Refused Unknown
fault_of_sets sets.Full = Refused Full
fault_of_sets sets.Memory = Memory
