-- The invariants of the loops of `areas_of` in `src/picture.rt`.
use Rattle.std.proofs.Common.{◌≡◌, map, take}
use Rattle.mpw_firm_report.specs.Content.{fault_of}
use Rattle.mpw_firm.specs.Shown.{areas_of}
use Rattle.mpw_firm.proofs.picture.areas_of.Given as goal

abbrev pub invariant-loop-fault : goal.invariant-loop-fault
invariant-loop-fault l = l.areas.items ≡ areas_of (map fault_of (take l.fault-index l.faults))
