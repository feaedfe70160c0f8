-- Answers to the goals of `check_columns` in `src/check.rt`.
use Rattle.std.proofs.Common.{sym, subst}
use Rattle.std.specs.Prelude.{All}
use Rattle.mpw_columns.specs.Plan.{IsColumnWithin}
use Rattle.mpw_columns.proofs.check.check_columns.Goals as goal

pub lists_of_columns-requires-clause-within : goal.lists_of_columns-requires-clause-within
lists_of_columns-requires-clause-within g c κs alive =
    subst (All (IsColumnWithin c.args.snapshot.now)) (sym c.as_slice.ensures.value)
    (c.columns_lie_within.ensures c.args.snapshot.now _ c.in_ok-columns.ensures.plan.plan)
