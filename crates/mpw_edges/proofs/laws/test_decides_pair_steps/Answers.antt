-- Answers to the goals of `test_decides_pair_steps` in `src/laws.rt`.
use Rattle.mpw_edges.proofs.Computed.{step_decides}
use Rattle.mpw_edges.proofs.laws.test_decides_pair_steps.Goals as goal

pub returns : goal.returns
returns c = step_decides
