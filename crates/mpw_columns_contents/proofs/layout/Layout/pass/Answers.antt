-- Answers to the goals of `Layout::pass` in `src/making.rt`.
use Rattle.std.proofs.Common.{[]}
use Rattle.mpw_columns_contents.specs.Things.{thing_items, things_items}
use Rattle.mpw_columns_contents.proofs.Adding.{adds_more}
use Rattle.mpw_columns_contents.proofs.layout.Layout.pass.Goals as goal

pub loop-thing-preserved : goal.loop-thing-preserved
unfolding things_items
loop-thing-preserved c =
    let l = c.args.self.now in
    adds_more l (thing_items l.shelf.now) c.args.old.now c.loop-thing.thing-index _ []
    c.loop-thing.things.items c.pass_thing.new.things.items
    c.loop-thing-test.true c.loop-thing.invariant c.in_ok-pass_thing.ensures
