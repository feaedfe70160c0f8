-- Answers to the goals of `width` in `src/values.rt`.
use Rattle.std.proofs.Common.{sym, rules}
use Rattle.mpw_records.specs.Records.{raw}
use Rattle.mpw_elements.specs.Values.{width_of}
use Rattle.mpw_elements.proofs.Shapes.{width_is}
use Rattle.mpw_elements.proofs.values.width.Goals as goal

pub returns-clause-width : goal.returns-clause-width
unfolding width_of
returns-clause-width c = search rules

pub returns-clause-even : goal.returns-clause-even
returns-clause-even c =
    width_is c.args.unit (raw c.args.from) _ c.requires.unit (sym (returns-clause-width c))
