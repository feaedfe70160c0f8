-- The invariants of the loops of `report_faults` in `src/seen.rt`.
use Rattle.std.proofs.Common.{◌≡◌, map, take}
use Rattle.mpw_firm_report.specs.Content.{fault_of}
use Rattle.mpw_firm_sources.specs.Seen.{told_seen}
use Rattle.mpw_firm_sources.proofs.seen.report_faults.Given as goal

abbrev pub invariant-loop-fault : goal.invariant-loop-fault
invariant-loop-fault l =
    map fault_of l.faults.items ≡ map told_seen (take l.fault-index l.seen)
