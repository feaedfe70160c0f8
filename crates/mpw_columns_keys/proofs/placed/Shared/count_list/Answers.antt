-- Answers to the goals of `Shared::count_list` in `src/placed.rt`.
use Rattle.std.proofs.Common.{ap}
use Rattle.mpw_columns_keys.specs.Firsts.{capped, placed_count}
use Rattle.mpw_columns_keys.proofs.Room.{counted_more, counted_all}
use Rattle.mpw_columns_keys.proofs.placed.Shared.count_list.Goals as goal

pub loop-column-preserved : goal.loop-column-preserved
loop-column-preserved c =
    counted_more (placed_count c.args.self.now.firsts.now c.args.number) c.args.columns.now
    c.loop-column.column-index _ c.loop-column.count c.count_column.result
    c.saturating_add-count.result
    c.loop-column-test.true c.loop-column.invariant (ap capped c.count_column.ensures)
    c.saturating_add-count.ensures

pub returns : goal.returns
returns c =
    counted_all (placed_count c.args.self.now.firsts.now c.args.number) c.args.columns.now
    c.loop-column.column-index c.loop-column.count c.loop-column-test.false c.loop-column.invariant
