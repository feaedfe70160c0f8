-- The invariants of the loops of `node_numbers` in `src/node.rt`.
use Rattle.mpw_seen.specs.Internal.Counts.{AreNumbers}
use Rattle.mpw_seen.proofs.node.node_numbers.Given as goal

abbrev pub invariant-loop-node : goal.invariant-loop-node
invariant-loop-node l =
    AreNumbers l.structures l.outer l.is_seen l.nodes l.node-index l.numbers.items
