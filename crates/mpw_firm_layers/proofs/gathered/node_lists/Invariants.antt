-- The invariants of the loops of `node_lists` in `src/gathered.rt`.
use Rattle.mpw_firm_layers.specs.Internal.Values.{AreValues}
use Rattle.mpw_firm_layers.specs.Internal.Gathered.{node_layers}
use Rattle.mpw_firm_layers.proofs.gathered.node_lists.Given as goal

abbrev pub invariant-loop-node : goal.invariant-loop-node
invariant-loop-node l =
    AreValues (node_layers l.rules l.outer) l.structures l.nodes l.node-index l.lists.items
