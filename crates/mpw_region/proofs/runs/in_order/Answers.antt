-- Answers to the goals of `in_order` in `src/runs.rt`.
use Rattle.std.proofs.Common.{arith, get_or, ◌+◌}
use Rattle.mpw_region.proofs.Order.{AreInOrder-from_neighbours, BeginsFirst-from_sort}
use Rattle.mpw_region.proofs.runs.in_order.Goals as goal

pub returns-clause-ordered : goal.returns-clause-ordered
returns-clause-ordered c =
    AreInOrder-from_neighbours c.sort_unstable.new.self.items
    (λ k d b. BeginsFirst-from_sort (get_or c.sort_unstable.new.self.items k d)
    (get_or c.sort_unstable.new.self.items (k + 1) d)
    (c.sort_unstable.ensures.sorted k d (omega arith) b))
