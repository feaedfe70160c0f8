-- Answers to the goals of `add_list` in `src/lists.rt`.
use Rattle.std.specs.Prelude.{filter}
use Rattle.mpw_columns_keys.specs.Keys.{is_of_list, list_of}
use Rattle.mpw_columns_keys.proofs.Added.{next_list, all_added}
use Rattle.mpw_columns_keys.proofs.lists.add_list.Goals as goal

pub loop-list-preserved : goal.loop-list-preserved
loop-list-preserved c =
    next_list (filter (is_of_list c.args.number)) c.args.markers.now.items
    c.loop-list.markers.items c.add_markers.new.markers.items c.args.lists.now
    c.loop-list.list-index c.list-item.result c.list.result.now c.loop-list-test.true
    c.list-item.is c.loop-list.invariant c.in_ok-add_markers.ensures c.list.ensures

pub returns : goal.returns
returns c =
    all_added (list_of c.args.number) c.args.markers.now.items c.loop-list.markers.items
    c.args.lists.now c.loop-list.list-index c.loop-list-test.false c.loop-list.invariant
