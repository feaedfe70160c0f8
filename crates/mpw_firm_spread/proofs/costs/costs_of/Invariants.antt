-- The invariants of the loops of `costs_of` in `src/costs.rt`.
use Rattle.std.proofs.Common.{◌≡◌, ◌≤◌, length}
use Rattle.std.specs.Prelude.{All}
use Rattle.mpw_firm_spread.proofs.costs.costs_of.Given as goal

abbrev pub invariant-loop-column : goal.invariant-loop-column
invariant-loop-column l =
    (length l.costs.items ≡ l.column-index) × All (λ cost. 1 ≤ cost) l.costs.items
