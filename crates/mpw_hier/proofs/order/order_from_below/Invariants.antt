-- The invariants of the loops of `order_from_below` in `src/order.rt`.
use Rattle.std.proofs.Common.{◌≡◌}
use Rattle.mpw_hier.specs.Internal.Descent.{IsUnderWay, work}
use Rattle.mpw_hier.proofs.order.order_from_below.Given as goal

abbrev pub invariant-loop-descent : goal.invariant-loop-descent
invariant-loop-descent l =
    record { under_way : IsUnderWay l.graph l.descent; top : l.descent.top ≡ l.top }

abbrev pub decreases-loop-descent : goal.decreases-loop-descent
decreases-loop-descent l = work l.descent
