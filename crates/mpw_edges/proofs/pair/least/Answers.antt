-- Answers to the goals of `least` in `src/pair.rt`.
use Rattle.std.proofs.Common.{arith}
use Rattle.std.proofs.lemmas.Int.{ints, clamps}
use Rattle.mpw_edges.proofs.pair.least.Goals as goal

pub returns : goal.returns
returns c = λ j. (
  λ h. (
    omega (arith, ints, clamps, h),
    omega (arith, ints, clamps, h),
    omega (arith, ints, clamps, h),
  ),
  λ h. omega (arith, ints, clamps, h.0, h.1, h.2),
)
