-- Answers to the goals of `next_is_fewest` in `src/runs.rt`.
use Rattle.mpw_laws.proofs.Fewest.{fewest}
use Rattle.mpw_laws.proofs.runs.next_is_fewest.Goals as goal

pub returns : goal.returns
returns c = fewest
