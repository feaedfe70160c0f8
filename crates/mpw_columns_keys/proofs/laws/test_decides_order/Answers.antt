-- Answers to the goals of `test_decides_order` in `src/laws.rt`.
use Rattle.mpw_columns_keys.proofs.Ordered.{decides}
use Rattle.mpw_columns_keys.proofs.laws.test_decides_order.Goals as goal

pub returns : goal.returns
returns c = decides
