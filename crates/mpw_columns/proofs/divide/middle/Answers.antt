-- Answers to the goals of `middle` in `src/divide.rt`.
use Rattle.std.proofs.Common.{arith}
use Rattle.std.proofs.lemmas.Int.{ints, clamps}
use Rattle.mpw_columns.proofs.divide.middle.Goals as goal

pub returns-clause-low : goal.returns-clause-low
returns-clause-low c = omega (arith, ints, clamps)

pub returns-clause-high : goal.returns-clause-high
returns-clause-high c = omega (arith, ints, clamps)
