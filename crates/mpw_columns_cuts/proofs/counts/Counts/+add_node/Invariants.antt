-- The invariants of the loops of `Counts::add_node` in `src/counts.rt`.
use Rattle.mpw_columns_cuts.proofs.counts.Counts.+add_node.Given as goal

abbrev pub decreases-add_node : goal.decreases-add_node
decreases-add_node l = l.depth
