-- The invariants of the loops of `unit_of` in `src/unit.rt`.
use Rattle.std.proofs.Common.{◌≡◌, length}
use Rattle.mpw_firm_faults.specs.Faults.{unit_in, unit_of}
use Rattle.mpw_firm_faults.proofs.unit.unit_of.Given as goal

-- no record so far is UNITS
abbrev pub invariant-loop-outcome : goal.invariant-loop-outcome
invariant-loop-outcome l = unit_in l.records ≡ unit_of l.text

abbrev pub decreases-loop-outcome : goal.decreases-loop-outcome
decreases-loop-outcome l = length l.records
