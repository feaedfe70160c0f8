-- Answers to the goals of `Wire::along` in `src/path.rt`.
use Rattle.std.proofs.Common.{rules, arith}
use Rattle.std.proofs.lemmas.Int.{ints}
use Rattle.mpw_geom.proofs.Tests.{test_from_lt}
use Rattle.mpw_shapes.specs.Internal.Wire.{along}
use Rattle.mpw_shapes.proofs.Columns.{not_lt_test}
use Rattle.mpw_shapes.proofs.path.Wire.along.Goals as goal

pub returns-then-from-to : goal.returns-then-from-to
unfolding along
returns-then-from-to c =
    rw (test_from_lt c.args.from c.args.to (omega (arith, ints))) (search rules)

pub returns-else-from-to : goal.returns-else-from-to
unfolding along
returns-else-from-to c =
    rw (not_lt_test c.args.from c.args.to (omega (arith, ints))) (search rules)

pub overflow_sub-result : goal.overflow_sub-result
overflow_sub-result c = search rules

pub overflow_add-result : goal.overflow_add-result
overflow_add-result c = search rules

pub overflow_sub-result-else-from-to : goal.overflow_sub-result-else-from-to
overflow_sub-result-else-from-to c = search rules

pub overflow_add-result-else-from-to : goal.overflow_add-result-else-from-to
overflow_add-result-else-from-to c = search rules
