-- The invariants of the loops of `node_number` in `src/node.rt`.
use Rattle.std.proofs.Common.{◌≡◌, ◌+◌, take}
use Rattle.std.specs.List.{sum_by}
use Rattle.mpw_seen.specs.Internal.Counts.{told, child_number}
use Rattle.mpw_firm_layers.specs.Internal.Counts.{one_if}
use Rattle.mpw_firm_layers.proofs.node.node_number.Given as goal

abbrev pub invariant-loop-child : goal.invariant-loop-child
invariant-loop-child l =
    l.number ≡ told (sum_by (one_if l.fn.layer) l.elements
    + sum_by (child_number l.elements l.own l.outer) (take l.child-index l.children))
