-- Answers to the goals of `columns_follow_on` in `src/follow.rt`.
use Rattle.mpw_columns.proofs.Following.{follow_on}
use Rattle.mpw_columns.proofs.follow.columns_follow_on.Goals as goal

pub returns : goal.returns
returns c = follow_on
