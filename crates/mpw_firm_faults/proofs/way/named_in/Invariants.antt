-- The invariants of the loops of `named_in` in `src/way.rt`.
use Rattle.std.proofs.Common.{◌≡◌, drop, length}
use Rattle.mpw_records.specs.Records.{outcomes_of}
use Rattle.mpw_firm_faults.specs.Lifting.{named_in}
use Rattle.mpw_firm_faults.proofs.way.named_in.Given as goal

-- no record so far is SNAME or ENDEL
abbrev pub invariant-loop-outcome : goal.invariant-loop-outcome
invariant-loop-outcome l = named_in l.records ≡ named_in (outcomes_of (drop l.at l.text))

abbrev pub decreases-loop-outcome : goal.decreases-loop-outcome
decreases-loop-outcome l = length l.records
