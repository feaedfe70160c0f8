-- The invariants of the loops of `lift` in `src/lifting.rt`.
use Rattle.mpw_firm_faults.proofs.lifting.+lift.Given as goal

abbrev pub decreases-lift : goal.decreases-lift
decreases-lift l = l.levels
