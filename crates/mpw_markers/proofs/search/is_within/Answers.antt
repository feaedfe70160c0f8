-- Answers to the goals of `is_within` in `src/search.rt`.
use Rattle.std.proofs.Common.{arith}
use Rattle.std.proofs.lemmas.Int.{ints}
use Rattle.mpw_markers.proofs.search.is_within.Goals as goal

pub returns : goal.returns
returns c = λ _. record {
  left = omega (arith, ints);
  right = omega (arith, ints);
  bottom = omega (arith, ints);
  top = omega (arith, ints);
}
