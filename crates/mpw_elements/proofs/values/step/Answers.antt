-- Answers to the goals of `step` in `src/values.rt`.
use Rattle.std.proofs.Common.{rules}
use Rattle.mpw_elements.proofs.values.step.Goals as goal

pub difference-across-requires-clause-from : goal.difference-across-requires-clause-from
difference-across-requires-clause-from c = search rules

pub difference-across-requires-clause-to : goal.difference-across-requires-clause-to
difference-across-requires-clause-to c = search rules

pub difference-up-requires-clause-from : goal.difference-up-requires-clause-from
difference-up-requires-clause-from c = search rules

pub difference-up-requires-clause-to : goal.difference-up-requires-clause-to
difference-up-requires-clause-to c = search rules

pub part-requires-clause-count : goal.part-requires-clause-count
part-requires-clause-count c = search rules

pub part-requires-clause-whole : goal.part-requires-clause-whole
part-requires-clause-whole c = search rules

pub part-requires-2-clause-count : goal.part-requires-2-clause-count
part-requires-2-clause-count c = search rules

pub part-requires-2-clause-whole : goal.part-requires-2-clause-whole
part-requires-2-clause-whole c = search rules

pub returns-clause-step : goal.returns-clause-step
returns-clause-step c = search rules

pub returns-clause-reach : goal.returns-clause-reach
returns-clause-reach c = search rules
