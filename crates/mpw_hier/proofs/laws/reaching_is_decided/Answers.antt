-- Answers to the goals of `reaching_is_decided` in `src/laws.rt`.
use Rattle.mpw_hier.proofs.ReachTests.{cycles_found, outside_found, externals_one, far_found}
use Rattle.mpw_hier.proofs.laws.reaching_is_decided.Goals as goal

pub returns : goal.returns
returns c = record {
  cycles = cycles_found;
  outside = outside_found;
  externals = externals_one;
  far = far_found;
}
