-- Answers to the goals of `Shared::add_list` in `src/placed.rt`.
use Rattle.mpw_columns_keys.specs.Firsts.{placed_keys}
use Rattle.mpw_columns_keys.proofs.Room.{adds_none, adds_next, adds_all}
use Rattle.mpw_columns_keys.proofs.placed.Shared.add_list.Goals as goal

pub loop-column-init : goal.loop-column-init
loop-column-init c = adds_none c.args.together.now

pub loop-column-preserved : goal.loop-column-preserved
loop-column-preserved c =
    adds_next (placed_keys c.args.self.now.firsts.now c.args.number) c.args.together.now
    c.loop-column.together c.add_column.new.together c.args.columns.now c.loop-column.column-index _
    c.loop-column-test.true c.loop-column.invariant c.in_ok-add_column.ensures

pub returns : goal.returns
returns c =
    adds_all (placed_keys c.args.self.now.firsts.now c.args.number) c.args.together.now
    c.loop-column.together c.args.columns.now c.loop-column.column-index c.loop-column-test.false
    c.loop-column.invariant
