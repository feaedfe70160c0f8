-- The invariants of the loops of `cuts_of_faults` in `src/leaving_out.rt`.
use Rattle.std.proofs.Common.{◌≡◌, take}
use Rattle.mpw_firm_faults.specs.LeavingOut.{cuts_of_faults}
use Rattle.mpw_firm_faults.proofs.leaving_out.cuts_of_faults.Given as goal

-- the cuts are those of the faults so far
abbrev pub invariant-loop-fault : goal.invariant-loop-fault
invariant-loop-fault l = l.cuts.items ≡ cuts_of_faults (take l.fault-index l.found)
