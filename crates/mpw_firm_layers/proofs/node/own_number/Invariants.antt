-- The invariants of the loops of `own_number` in `src/node.rt`.
use Rattle.std.proofs.Common.{◌≡◌, take}
use Rattle.std.specs.List.{sum_by}
use Rattle.mpw_seen.specs.Internal.Counts.{told}
use Rattle.mpw_firm_layers.specs.Internal.Counts.{one_if}
use Rattle.mpw_firm_layers.proofs.node.own_number.Given as goal

abbrev pub invariant-loop-element : goal.invariant-loop-element
invariant-loop-element l =
    l.number ≡ told (sum_by (one_if l.layer) (take l.element-index l.elements))
