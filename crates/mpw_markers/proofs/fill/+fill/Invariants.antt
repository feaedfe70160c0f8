-- The invariants of the loops of `fill` in `src/fill.rt`.
use Rattle.mpw_markers.proofs.fill.+fill.Given as goal

abbrev pub decreases-fill : goal.decreases-fill
decreases-fill l = l.depth
