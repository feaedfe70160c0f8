-- The invariants of the loops of `node_numbers` in `src/node.rt`.
use Rattle.mpw_firm_layers.specs.Internal.Values.{AreValues}
use Rattle.mpw_firm_layers.specs.Internal.Counts.{node_number}
use Rattle.mpw_firm_layers.proofs.node.node_numbers.Given as goal

abbrev pub invariant-loop-node : goal.invariant-loop-node
invariant-loop-node l =
    AreValues (node_number l.layer l.outer) l.structures l.nodes l.node-index l.numbers.items
