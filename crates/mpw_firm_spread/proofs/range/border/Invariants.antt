-- The invariants of the loops of `border` in `src/range.rt`.
use Rattle.std.proofs.Common.{◌≡◌, ◌≤◌, ◌+◌, ◌*◌, length, drop}
use Rattle.mpw_firm_spread.specs.Ranges.{reach_of, border_of}
use Rattle.mpw_firm_spread.proofs.range.border.Given as goal

abbrev pub invariant-loop-index : goal.invariant-loop-index
invariant-loop-index l =
    (l.index ≤ length l.costs)
    × (l.index + reach_of l.count l.wanted (drop l.index l.costs) ≡ border_of l.shares l.count
    l.costs)
