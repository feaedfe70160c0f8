-- The invariants of the loops of `rule_counts` in `src/summary.rt`.
use Rattle.std.proofs.Common.{◌≡◌, length, take}
use Rattle.mpw_firm_outputs.specs.Internal.Counted.{AreCounts}
use Rattle.mpw_firm_outputs.proofs.summary.rule_counts.Given as goal

abbrev pub invariant-loop-marker : goal.invariant-loop-marker
invariant-loop-marker l =
    (length l.counts.items ≡ l.fn.rules)
    × AreCounts (take l.marker-index l.fn.markers) l.counts.items
