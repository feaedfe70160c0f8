-- Answers to the goals of `by_layer` in `src/cores.rt`.
use Rattle.std.proofs.Common.{sym}
use Rattle.mpw_columns.proofs.Sorted.{same_on}
use Rattle.mpw_columns.proofs.cores.by_layer.Goals as goal

pub returns : goal.returns
returns c = sym (same_on c.args.rectangles.items c.sort_unstable_by_key.new.self.items
    c.sort_unstable_by_key.ensures.permutation)
