-- Answers to the goals of `rows_of` in `src/boundary.rt`.
use Rattle.mpw_shapes.proofs.Order.{apart_from_sorted, kept_heights}
use Rattle.mpw_shapes.proofs.boundary.rows_of.Goals as goal

pub returns-clause-heights : goal.returns-clause-heights
returns-clause-heights c = λ y has.
    kept_heights c.in_ok-rows.rows.items c.sort_unstable.new.self.items _ y
    c.sort_unstable.ensures.permutation c.dedup.ensures.filtered (rw c.in_ok-rows.ensures has)

pub returns-clause-apart : goal.returns-clause-apart
returns-clause-apart c = apart_from_sorted c.sort_unstable.new.self.items _
    c.sort_unstable.ensures.sorted c.dedup.ensures.filtered
