-- Answers to the goals of `part` in `src/values.rt`.
use Rattle.std.proofs.Common.{rules}
use Rattle.mpw_elements.proofs.values.part.Goals as goal

pub nonzero_rem-whole : goal.nonzero_rem-whole
nonzero_rem-whole c = search rules

pub returns-then-whole-count-ne0-clause-part : goal.returns-then-whole-count-ne0-clause-part
returns-then-whole-count-ne0-clause-part c = search rules

pub returns-then-whole-count-ne0-clause-reach : goal.returns-then-whole-count-ne0-clause-reach
returns-then-whole-count-ne0-clause-reach c = search rules

pub nonzero_div-result : goal.nonzero_div-result
nonzero_div-result c = search rules

pub returns-clause-part : goal.returns-clause-part
returns-clause-part c = search rules

pub returns-clause-reach : goal.returns-clause-reach
returns-clause-reach c = search rules
