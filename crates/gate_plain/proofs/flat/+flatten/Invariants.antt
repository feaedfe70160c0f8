-- The invariants of the loops of `flatten` in `src/flat.rt`.
use Rattle.gate_plain.proofs.flat.+flatten.Given as goal

abbrev pub decreases-flatten : goal.decreases-flatten
decreases-flatten l = l.depth
