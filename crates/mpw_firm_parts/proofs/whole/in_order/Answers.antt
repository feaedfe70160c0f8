-- Answers to the goals of `in_order` in `src/whole.rt`.
use Rattle.std.proofs.Common.{rules}
use Rattle.mpw_firm_parts.proofs.Faults.{ordered_from_sort_by_key}
use Rattle.mpw_firm_parts.proofs.whole.in_order.Goals as goal

pub returns-clause-ordered : goal.returns-clause-ordered
returns-clause-ordered c = ordered_from_sort_by_key c.sort_by_key.new.self.items
    c.in_ok-sort_by_key.ensures.sorted (λ a r q k. search rules)
