-- The invariants of the loops of `edges_in_turn` in `src/edge.rt`.
use Rattle.mpw_shapes.proofs.Chains.{Taken}
use Rattle.mpw_shapes.proofs.edge.edges_in_turn.Given as goal

abbrev pub invariant-loop-to : goal.invariant-loop-to
invariant-loop-to l = Taken l.corners l.to-index l.from l.edges.items
