-- Answers to the goals of `Columns::are_like` in `src/block.rt`.
use Rattle.mpw_columns.proofs.Blocked.{all_alike}
use Rattle.mpw_columns.proofs.block.Columns.are_like.Goals as goal

pub returns : goal.returns
returns c = λ yes.
    all_alike c.args.self.now.layout.now c.args.self.now.list.now c.args.earlier.now.whole c.args.block.now.whole
    c.args.earlier.now.place c.args.block.now.place c.args.block.now.count
    (c.stands_behind.ensures c.if-not-stands_behind.false) (c.is_like.ensures c.if-not-is_like.false)
    (c.are_counterparts.ensures yes)
