-- Answers to the goals of `middle` in `src/halves.rt`.
use Rattle.std.proofs.Common.{arith}
use Rattle.std.proofs.lemmas.Int.{ints, clamps}
use Rattle.mpw_checks.proofs.halves.middle.Goals as goal

pub returns : goal.returns
returns c = record {
  column = omega (arith, ints, clamps);
  columns = λ z l h. omega (arith, ints, clamps, l, h);
}
