-- For private functions and proofs: the faults of making the nodes of a submission.
use Rattle.mpw_hier.specs.declared.fault.HierFault.{HierFault}
use Rattle.mpw_hier.specs.declared.fault.HierFault.TheVariants as faults

-- Out of memory, or an extent: making the nodes of a submission that is bound has no other fault.
abbrev pub IsOfNodes : HierFault → Type 0
IsOfNodes faults.Memory = Unit {0}
IsOfNodes faults.Extent = Unit {0}
IsOfNodes faults.NoTop = ⊥
IsOfNodes faults.Cycle = ⊥
IsOfNodes faults.NoCell = ⊥
IsOfNodes faults.Shapes = ⊥
IsOfNodes faults.Deep = ⊥
IsOfNodes faults.Full = ⊥
