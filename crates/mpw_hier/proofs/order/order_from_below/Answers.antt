-- Answers to the goals of `order_from_below` in `src/order.rt`.
use Rattle.std.proofs.Common.{rules}
use Rattle.mpw_hier.proofs.order.order_from_below.Goals as goal

pub returns-in-Done-clause-order : goal.returns-in-Done-clause-order
returns-in-Done-clause-order c = rw c.into_order.ensures (search rules)
