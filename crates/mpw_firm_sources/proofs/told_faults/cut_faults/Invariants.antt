-- The invariants of the loops of `cut_faults` in `src/told_faults.rt`.
use Rattle.std.proofs.Common.{◌≡◌, take}
use Rattle.std.specs.Prelude.{filter}
use Rattle.mpw_firm_sources.specs.FaultLines.{is_cut}
use Rattle.mpw_firm_sources.proofs.told_faults.cut_faults.Given as goal

-- those of the faults so far that are cut out
abbrev pub invariant-loop-fault : goal.invariant-loop-fault
invariant-loop-fault l =
    l.found.items ≡ filter (is_cut l.source.structures) (take l.fault-index l.fault-items)
