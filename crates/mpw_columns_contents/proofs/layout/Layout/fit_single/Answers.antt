-- Answers to the goals of `Layout::fit_single` in `src/part.rt`.
use Rattle.std.proofs.Common.{rules}
use Rattle.mpw_columns_contents.proofs.Arrays.{near, none_left}
use Rattle.mpw_columns_contents.proofs.layout.Layout.fit_single.Goals as goal

pub is_single_met-requires-clause-near : goal.is_single_met-requires-clause-near
is_single_met-requires-clause-near c =
    let e = c.requires.extent in
    near c.requires.law c.args.self.now c.requires.layout c.args.array.now c.requires.array e.node
    e.at c.args.extent e.extent_is

pub returns-else-is_single_met : goal.returns-else-is_single_met
returns-else-is_single_met c =
    let e = c.requires.extent in
    none_left c.requires.law c.args.self.now c.requires.layout c.args.array.now c.requires.array e.node
    e.at c.args.extent e.extent_is (search rules) c.args.things.now.items
