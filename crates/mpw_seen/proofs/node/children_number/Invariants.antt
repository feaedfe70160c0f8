-- The invariants of the loops of `children_number` in `src/node.rt`.
use Rattle.std.proofs.Common.{◌≡◌, ◌+◌, take}
use Rattle.std.specs.List.{sum_by}
use Rattle.mpw_seen.specs.Internal.Counts.{told, child_number}
use Rattle.mpw_seen.proofs.node.children_number.Given as goal

abbrev pub invariant-loop-child : goal.invariant-loop-child
invariant-loop-child l =
    l.number ≡ told (l.first + sum_by (child_number l.elements l.own l.outer)
    (take l.child-index l.children))
