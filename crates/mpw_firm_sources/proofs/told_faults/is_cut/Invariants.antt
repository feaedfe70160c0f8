-- The invariants of the loops of `is_cut` in `src/told_faults.rt`.
use Rattle.std.proofs.Common.{◌≡◌, drop}
use Rattle.std.specs.List.{list_any}
use Rattle.mpw_firm_sources.specs.FaultLines.{is_in}
use Rattle.mpw_firm_sources.proofs.told_faults.is_cut.Given as goal

-- the fault is in none of the cuts so far
abbrev pub invariant-loop-cut : goal.invariant-loop-cut
invariant-loop-cut l =
    list_any (is_in l.found.fault.offset) (drop l.cut-index l.cuts)
    ≡ list_any (is_in l.found.fault.offset) l.cuts
