-- The invariants of the loops of `sum_of` in `src/range.rt`.
use Rattle.std.proofs.Common.{◌≡◌, ◌≤◌, ◌+◌, ◌*◌, length, drop}
use Rattle.std.specs.Prelude.{sum}
use Rattle.mpw_firm_spread.proofs.range.sum_of.Given as goal

abbrev pub invariant-loop-index : goal.invariant-loop-index
invariant-loop-index l =
    (l.index ≤ length l.costs) × (l.sum ≤ l.index * 4294967295)
    × (l.sum + sum (drop l.index l.costs) ≡ sum l.costs)
