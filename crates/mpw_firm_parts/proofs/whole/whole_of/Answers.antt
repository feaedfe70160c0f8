-- Answers to the goals of `whole_of` in `src/whole.rt`.
use Rattle.mpw_firm_parts.proofs.Faults.{own_columns}
use Rattle.mpw_firm_parts.proofs.whole.whole_of.Goals as goal

pub follow_on-requires-clause-own : goal.follow_on-requires-clause-own
follow_on-requires-clause-own c =
    rw c.as_slice.ensures.value
    (own_columns c.args.count c.args.parts.items c.in_ok-ordered.ordered.items
    c.in_ok-ordered.ensures.permuted c.requires)
