-- The invariants of the loops of `put_faults` in `src/faults.rt`.
use Rattle.std.proofs.Common.{take, map}
use Rattle.std.specs.List.{flat_map}
use Rattle.std.specs.Io.KnownBytes.{Appends}
use Rattle.mpw_firm_report.specs.Content.{fault_of}
use Rattle.mpw_firm_report.specs.Report.{fault_text}
use Rattle.mpw_firm_report.proofs.faults.put_faults.Given as goal

abbrev pub invariant-loop-fault : goal.invariant-loop-fault
invariant-loop-fault g l =
    Appends (g.W.Write.contents l.initial.writer) (g.W.Write.contents l.writer)
    (flat_map (fault_text l.top) (map fault_of (take l.fault-index l.faults)))
