-- Answers to the goals of `corner` in `src/size_array.rt`.
use Rattle.std.proofs.Common.{rules}
use Rattle.mpw_hier.proofs.Reaching.{sum_is}
use Rattle.mpw_hier.proofs.size_array.corner.Goals as goal

pub returns : goal.returns
returns c =
    sum_is c.args.first c.from.result _ _ (search rules) c.from.ensures c.requires.column
    c.requires.row
