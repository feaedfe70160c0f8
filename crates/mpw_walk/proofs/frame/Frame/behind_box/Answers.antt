-- Answers to the goals of `Frame::behind_box` in `src/frame.rt`.
use Rattle.std.proofs.Common.{inr}
use Rattle.mpw_walk.proofs.Skipping.{skips_columns}
use Rattle.mpw_walk.proofs.frame.Frame.behind_box.Goals as goal

pub returns : goal.returns
returns c = inr (skips_columns c.args.self.now c.args.reference.now c.args.there c.args.window
    c.behind_columns.result c.apply-across.result c.columns_missed-columns.result c.max.result
    c.apply-across.ensures.point c.columns_missed-columns.ensures.missed c.requires.missed
    c.max.ensures c.behind_columns.ensures)
