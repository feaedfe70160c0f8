-- Answers to the goals of `sorted` in `src/pieces.rt`.
use Rattle.std.proofs.Common.{rules}
use Rattle.mpw_columns_keys.proofs.KeyOrder.{sorted_from_sort}
use Rattle.mpw_columns_keys.proofs.pieces.sorted.Goals as goal

pub returns-clause-sorted : goal.returns-clause-sorted
returns-clause-sorted c =
    sorted_from_sort c.sort_unstable_by.new.self.items c.sort_unstable_by.ensures.sorted
    (λ a r f k. search rules)
