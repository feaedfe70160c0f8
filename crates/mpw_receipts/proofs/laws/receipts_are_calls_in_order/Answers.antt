-- Answers to the goals of `receipts_are_calls_in_order` in `src/laws.rt`.
use Rattle.mpw_receipts.proofs.Calls.{has_no_other}
use Rattle.mpw_receipts.proofs.laws.receipts_are_calls_in_order.Goals as goal

pub returns-clause-others : goal.returns-clause-others
returns-clause-others g c = has_no_other g.E.Recorded.owner
