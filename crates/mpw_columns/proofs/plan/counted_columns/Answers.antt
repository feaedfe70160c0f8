-- Answers to the goals of `counted_columns` in `src/plan.rt`.
use Rattle.std.proofs.Common.{rules}
use Rattle.mpw_columns.proofs.Planned.{none_counted}
use Rattle.mpw_columns.proofs.plan.counted_columns.Goals as goal

pub returns-in-None-clause-plan : goal.returns-in-None-clause-plan
returns-in-None-clause-plan c =
    none_counted c.args.snapshot.now c.new.result.items (search rules) c.new.ensures.items
