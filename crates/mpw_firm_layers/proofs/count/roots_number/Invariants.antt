-- The invariants of the loops of `roots_number` in `src/count.rt`.
use Rattle.std.proofs.Common.{◌≡◌, take}
use Rattle.std.specs.List.{sum_by}
use Rattle.mpw_seen.specs.Internal.Counts.{told}
use Rattle.mpw_firm_layers.specs.Internal.Counts.{root_number}
use Rattle.mpw_firm_layers.proofs.count.roots_number.Given as goal

abbrev pub invariant-loop-root : goal.invariant-loop-root
invariant-loop-root l =
    l.number ≡ told (sum_by (root_number l.counts) (take l.root-index l.roots))
