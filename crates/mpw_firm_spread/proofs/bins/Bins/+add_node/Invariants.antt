-- The invariants of the loops of `Bins::add_node` in `src/bins.rt`.
use Rattle.mpw_firm_spread.proofs.bins.Bins.+add_node.Given as goal

abbrev pub decreases-add_node : goal.decreases-add_node
decreases-add_node l = l.depth
