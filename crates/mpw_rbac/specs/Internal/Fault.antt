-- The faults of a decision table of the hierarchy.
use Rattle.std.specs.Prelude.{◌≡◌, Result, Err}
use Rattle.mpw_roles.specs.Hierarchy.{Hierarchy}
use Rattle.mpw_roles.specs.declared.fault.RolesFault.{RolesFault}
use Rattle.mpw_rbac.specs.declared.refusal.PolicyFault.{PolicyFault}
use Rattle.mpw_rbac.specs.declared.refusal.PolicyFault.TheVariants.{Refused, Memory}
use Rattle.mpw_rbac.specs.Fault.{fault_of_roles}

-- a fault is out of memory, or that of the hierarchy's decision table
abbrev pub IsHierarchyFault : Result Hierarchy RolesFault → PolicyFault → Type 0
IsHierarchyFault row (Refused refusal) =
    (fault : RolesFault) × (row ≡ Err fault) × (fault_of_roles fault ≡ Refused refusal)
IsHierarchyFault row Memory = Unit {0}
