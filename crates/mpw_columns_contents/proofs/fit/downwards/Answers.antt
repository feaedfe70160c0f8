-- Answers to the goals of `downwards` in `src/fit.rt`.
use Rattle.mpw_columns_contents.proofs.Spans.{downwards_missed}
use Rattle.mpw_columns_contents.proofs.fit.downwards.Goals as goal

pub returns-clause-missed : goal.returns-clause-missed
returns-clause-missed c =
    downwards_missed c.args.there c.args.window c.args.step c.args.most c.before-2.result
    c.begun.result
    c.before-2.ensures.before c.begun.ensures.behind
