-- Answers to the goals of `Gap::hides` in `src/rows.rt`.
use Rattle.std.proofs.Common.{rules}
use Rattle.std.proofs.lemmas.Int.{ints}
use Rattle.mpw_shapes.proofs.rows.Gap.hides.Goals as goal

pub returns-then-saturating_add-lt0-clause-before : goal.returns-then-saturating_add-lt0-clause-before
returns-then-saturating_add-lt0-clause-before c = search (ints, rules)

pub returns-then-saturating_add-lt0-clause-after : goal.returns-then-saturating_add-lt0-clause-after
returns-then-saturating_add-lt0-clause-after c = search (ints, rules)

pub returns-else-saturating_add-lt0-clause-before : goal.returns-else-saturating_add-lt0-clause-before
returns-else-saturating_add-lt0-clause-before c = search (ints, rules)

pub returns-else-saturating_add-lt0-clause-after : goal.returns-else-saturating_add-lt0-clause-after
returns-else-saturating_add-lt0-clause-after c = search (ints, rules)
