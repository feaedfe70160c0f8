-- Answers to the goals of `none_of` in `src/earlier.rt`.
use Rattle.std.proofs.Common.{arith}
use Rattle.mpw_columns.proofs.Liked.{none_alike}
use Rattle.mpw_columns.proofs.earlier.none_of.Goals as goal

pub returns : goal.returns
returns c = none_alike c.args.layout.now c.args.columns.now c.loop.likes.items c.loop.index
    c.loop.invariant (omega arith)
