-- Answers to the goals of `shares_follow_on` in `src/laws.rt`.
use Rattle.mpw_firm_spread.proofs.Shares.{shares_follow_on}
use Rattle.mpw_firm_spread.proofs.laws.shares_follow_on.Goals as goal

pub returns : goal.returns
returns c = shares_follow_on
