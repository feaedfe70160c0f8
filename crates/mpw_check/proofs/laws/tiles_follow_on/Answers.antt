-- Answers to the goals of `tiles_follow_on` in `src/laws.rt`.
use Rattle.mpw_check.proofs.ListLemmas.{follow_on}
use Rattle.mpw_check.proofs.laws.tiles_follow_on.Goals as goal

pub returns : goal.returns
returns c = follow_on
